-- `turn_on` gives refusal 4, then 5, else the turned vector.
-- The frames of two numbers are there where the definition's tests say so; the test of the vector is the definition's.
use borrow.Author.Rules.{rules}
use mathlib.Core.Bool.{Bool, true, ◌&&◌}
use mathlib.Core.Path.{◌≡◌, refl, sym, ap, ◌∙◌}
use Rattle.std.specs.Prelude.{Ok, Err}
use Rattle.integers.proofs.Cast.{back}
use Rattle.integers.proofs.Triples.{parts_more}
use Rattle.refusals.proofs.Handed.{handed_on}
use Rattle.frames.specs.Frame.{is_frame, turned_between}
use Rattle.frames.specs.Frames.{frame_number, frame_of}
use Rattle.frames.specs.Answer.{in_limits, as_coordinates}
use Rattle.frames.proofs.Numbers.{frame_is, no_frame_is}
use Rattle.frames.proofs.Choice.{limits_parts}
use Rattle.places.specs.Answer.{earth_at, turn_if}
use Rattle.places.proofs.turn_on.Goals as goal
use Rattle.places.proofs.turn_on.Goals.{In_ok-from, In_ok-to, Start}

-- the answer by the outcomes of the three tests
by : (c : Start) {a b r : Bool} → is_frame c.args.from ≡ a → is_frame c.args.to ≡ b → in_limits c.args.v ≡ r → turn_if (a && b) r c.args.moment.table c.args.from c.args.to c.args.v c.args.moment.minute ≡ turn_if (is_frame c.args.from && is_frame c.args.to) (in_limits c.args.v) c.args.moment.table c.args.from c.args.to c.args.v c.args.moment.minute
by c e f g i = turn_if (sym e i && sym f i) (sym g i) c.args.moment.table c.args.from c.args.to c.args.v c.args.moment.minute

from_is : (c : In_ok-from) → (frame_number c.in_ok-from.from ≡ c.args.from) × (is_frame c.args.from ≡ true)
from_is c = frame_is c.args.from c.in_ok-from.from (sym (c.in_ok-from.ensures ∙ ap frame_of (back c.args.from c.ranges.from)))

to_is : (c : In_ok-to) → (frame_number c.in_ok-to.to ≡ c.args.to) × (is_frame c.args.to ≡ true)
to_is c = frame_is c.args.to c.in_ok-to.to (sym (c.in_ok-to.ensures ∙ ap frame_of (back c.args.to c.ranges.to)))

pub returns-in_err-from : goal.returns-in_err-from
returns-in_err-from c =
    let none = no_frame_is c.args.from c.in_err-from.field-0.0 (sym (c.in_err-from.ensures ∙ ap frame_of (back c.args.from c.ranges.from))) in
    handed_on c.from_residual.ensures.1 ∙ ap Err none.0 ∙ by (goal.at.returns-in_err-from c).Start none.1 refl refl

pub returns-in_err-to : goal.returns-in_err-to
returns-in_err-to c =
    let at = goal.at.returns-in_err-to c in
    let none = no_frame_is c.args.to c.in_err-to.field-0.0 (sym (c.in_err-to.ensures ∙ ap frame_of (back c.args.to c.ranges.to))) in
    handed_on c.from_residual-in_err-to.ensures.1 ∙ ap Err none.0 ∙ by at.Start (from_is at.In_ok-from).1 none.1 refl

pub returns-then-not-in_limits : goal.returns-then-not-in_limits
returns-then-not-in_limits c =
    let at = goal.at.returns-then-not-in_limits c in
    by at.Start (from_is at.In_ok-from).1 (to_is at.In_ok-to).1 (sym c.in_limits.ensures ∙ c.if-not-in_limits.true)

pub turned_on-requires : goal.turned_on-requires
turned_on-requires c = parts_more (limits_parts c.args.v (search rules) (sym c.in_limits.ensures ∙ c.if-not-in_limits.false)) tt

pub returns : goal.returns
returns c =
    let at = goal.at.returns c in
    let f = from_is at.In_ok-from in
    let g = to_is at.In_ok-to in
    ap Ok (c.turned_on.ensures ∙ (λ i. as_coordinates (turned_between (f.0 i) (g.0 i) (earth_at c.args.moment.table c.args.moment.minute) c.args.v)))
    ∙ by at.Start f.1 g.1 (sym c.in_limits.ensures ∙ c.if-not-in_limits.false)
