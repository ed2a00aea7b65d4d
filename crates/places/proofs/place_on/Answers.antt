-- `place_on` gives refusal 3, then 4, else the minute of the moment and the place of the body in the frame.
-- The body and the frame of a number are there where the definition's tests say so.
use mathlib.Core.Bool.{Bool, true}
use mathlib.Core.Path.{◌≡◌, refl, subst, sym, ap, ◌∙◌}
use lib.IntN.{pos}
use Rattle.std.specs.Prelude.{Ok, Err}
use Rattle.integers.specs.Triple.{PartsWithin}
use Rattle.integers.proofs.Cast.{back}
use Rattle.refusals.proofs.Handed.{handed_on}
use Rattle.tables.specs.Table.{is_body}
use Rattle.tables.specs.Bodies.{body_number, body_of}
use Rattle.tables.proofs.Laws.{covered_read}
use Rattle.tables.proofs.Bodies.{body_known, body_is, no_body_is}
use Rattle.orbits.proofs.Rows.{table_place_within}
use Rattle.frames.specs.Frame.{is_frame, turned_between}
use Rattle.frames.specs.Frames.{frame_number, frame_of}
use Rattle.frames.specs.Answer.{as_coordinates}
use Rattle.frames.proofs.Numbers.{frame_is, no_frame_is}
use Rattle.places.specs.Answer.{hae_at, earth_at, place_if}
use Rattle.places.proofs.place_on.Goals as goal
use Rattle.places.proofs.place_on.Goals.{In_ok-body, In_ok-frame, Start}

-- the answer by the outcomes of the two tests
by : (c : Start) {b f : Bool} → is_body c.args.body ≡ b → is_frame c.args.frame ≡ f → place_if b f c.args.moment.table c.args.body c.args.frame c.args.moment.minute ≡ place_if (is_body c.args.body) (is_frame c.args.frame) c.args.moment.table c.args.body c.args.frame c.args.moment.minute
by c p q i = place_if (sym p i) (sym q i) c.args.moment.table c.args.body c.args.frame c.args.moment.minute

of_body : (c : In_ok-body) → (body_number c.in_ok-body.body ≡ c.args.body) × (is_body c.args.body ≡ true)
of_body c = body_is c.args.body c.in_ok-body.body (sym (c.in_ok-body.ensures ∙ ap body_of (back c.args.body c.ranges.body)))

in_frame : (c : In_ok-frame) → (frame_number c.in_ok-frame.frame ≡ c.args.frame) × (is_frame c.args.frame ≡ true)
in_frame c = frame_is c.args.frame c.in_ok-frame.frame (sym (c.in_ok-frame.ensures ∙ ap frame_of (back c.args.frame c.ranges.frame)))

pub returns-in_err-body : goal.returns-in_err-body
returns-in_err-body c =
    let none = no_body_is c.args.body c.in_err-body.field-0.0 (sym (c.in_err-body.ensures ∙ ap body_of (back c.args.body c.ranges.body))) in
    handed_on c.from_residual.ensures.1 ∙ ap Err none.0 ∙ by (goal.at.returns-in_err-body c).Start none.1 refl

pub returns-in_err-frame : goal.returns-in_err-frame
returns-in_err-frame c =
    let at = goal.at.returns-in_err-frame c in
    let none = no_frame_is c.args.frame c.in_err-frame.field-0.0 (sym (c.in_err-frame.ensures ∙ ap frame_of (back c.args.frame c.ranges.frame))) in
    handed_on c.from_residual-in_err-frame.ensures.1 ∙ ap Err none.0 ∙ by at.Start (of_body at.In_ok-body).1 none.1

pub turned_on-requires : goal.turned_on-requires
turned_on-requires c =
    let m = c.args.moment in
    let body = c.in_ok-body.body in
    subst (PartsWithin 1000000000) (sym c.place_at-v.ensures) (table_place_within m.table (body_number body) m.minute (body_known body) m.on_table)

pub returns : goal.returns
returns c =
    let at = goal.at.returns c in
    let m = c.args.moment in
    let b = of_body at.In_ok-body in
    let f = in_frame at.In_ok-frame in
    let turned = c.turned_on.ensures ∙ (λ i. as_coordinates (turned_between (pos 1) (f.0 i) (earth_at m.table m.minute) ((c.place_at-v.ensures ∙ ap (λ body. hae_at m.table body m.minute) b.0) i))) in
    (λ i. Ok (covered_read m.on_table i, turned i)) ∙ by at.Start b.1 f.1
