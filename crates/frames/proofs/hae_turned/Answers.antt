-- `hae_turned` turns only a vector whose sums of products fit 64 bits.
-- By what `rotation` and `way` ensure: no frame's rotation makes a vector much longer.
use Rattle.std.proofs.Common.{◌≡◌, List, ℤ, rules, sym, subst}
use Rattle.vectors.specs.Vector.{way_of}
use Rattle.vectors.specs.Range.{TurnFits}
use Rattle.frames.specs.Frame.{rotation_of}
use Rattle.frames.specs.Frames.{frame_number}
use Rattle.frames.proofs.Frames.{hae_turn_fits}
use Rattle.frames.proofs.hae_turned.Goals as goal
use Rattle.frames.proofs.hae_turned.Goals.{After-way}

rows_are : (c : After-way) → c.way.result ≡ way_of c.args.back (rotation_of (frame_number c.args.frame) c.args.earth)
rows_are c = search rules

pub applied-requires : goal.applied-requires
applied-requires c =
    subst (λ (m : List (List ℤ)). TurnFits m c.args.v) (sym (rows_are (goal.at.applied-requires c).After-way))
    (hae_turn_fits c.args.earth c.args.back (frame_number c.args.frame) c.args.v (search rules) c.requires.earth_fits c.requires.no_longer)
