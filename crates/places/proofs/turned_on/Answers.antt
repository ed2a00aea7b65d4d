-- `turned_on` turns a vector between two frames at a moment: the Earth's place is worked out only where a frame goes by it.
-- Elsewhere it makes no difference (`earth_enough`), and where it is used it is away from the Sun (`earth_if_fits`).
use mathlib.Core.Path.{subst, sym, ap, ◌∙◌}
use Rattle.frames.specs.Range.{EarthFits}
use Rattle.frames.specs.Frame.{turned_between}
use Rattle.frames.specs.Frames.{frame_number}
use Rattle.frames.specs.Answer.{as_coordinates}
use Rattle.frames.proofs.Numbers.{frame_known}
use Rattle.places.proofs.Earth.{earth_if_fits, earth_enough}
use Rattle.places.proofs.turned_on.Goals as goal

pub turned_between-requires : goal.turned_between-requires
turned_between-requires c =
    let m = c.args.moment in
    let e = earth_if_fits m.table m.minute m.on_table (frame_number c.args.from) (frame_number c.args.to) in
    record {
      from_fits = subst (EarthFits (frame_number c.args.from)) (sym c.earth_for-earth.ensures) e.0;
      to_fits = subst (EarthFits (frame_number c.args.to)) (sym c.earth_for-earth.ensures) e.1;
      parts_within = c.requires;
    }

pub returns : goal.returns
returns c =
    let m = c.args.moment in
    let f = frame_number c.args.from in
    let g = frame_number c.args.to in
    let turned = c.turned_between.ensures ∙ ap (λ earth. turned_between f g earth c.args.v) c.earth_for-earth.ensures in
    c.from.ensures ∙ ap as_coordinates (turned ∙ earth_enough m.table m.minute m.on_table f g c.args.v (frame_known c.args.from) (frame_known c.args.to))
