-- `is_wrong` tells whether the row at the start of the bytes is wrong.
-- What was read is the definition's; of a row that a reader took, the status tells a refused one from a good one (Rows).
use borrow.Author.Rules.{rules}
use borrow.Author.Tests.{ne_eqb}
use mathlib.Core.Bool.{false, true, Bool, not, ◌||◌}
use mathlib.Core.Path.{◌≡◌, sym, ap, ◌∙◌}
use lib.IntN.{pos}
use mir.Syntax.{w64}
use mir.Val.{SFits, of_z}
use Rattle.integers.specs.Sign.{same}
use Rattle.integers.proofs.Same.{is_written, is_other}
use Rattle.rows.specs.Answer.{read_of}
use Rattle.rows.proofs.RoundTrip.{what_is_read_is_a_row}
use Rattle.marking.specs.Wrong.{our_answer, is_off_by, is_wrong}
use Rattle.marking.proofs.Rows.{wrong_by_status}
use Rattle.marking.proofs.is_wrong.Goals as goal
use Rattle.marking.proofs.is_wrong.Goals.{In-Ok}
use Rattle.std.specs.Prelude.{Ok}

-- what was read
row_is : (c : In-Ok) → read_of c.args.bytes.now ≡ Ok c.in-Ok.row
row_is c = sym c.in-Ok.ensures

status_fits : (c : In-Ok) → SFits w64 c.in-Ok.row.status
status_fits c = search rules

-- the definition, by the test of the status
by_status : (c : In-Ok) {t : Bool} → same c.in-Ok.row.status (pos 0) ≡ t
    → (not t || is_off_by c.args.allowed c.in-Ok.row (our_answer c.in-Ok.row)) ≡ is_wrong c.args.allowed (read_of c.args.bytes.now)
by_status c e =
    let row = c.in-Ok.row in
    (λ i. not (sym e i) || is_off_by c.args.allowed row (our_answer row))
    ∙ sym (wrong_by_status c.args.allowed row (what_is_read_is_a_row c.args.bytes.now row (row_is c)))
    ∙ ap (is_wrong c.args.allowed) (sym (row_is c))

pub returns-then-is_refused : goal.returns-then-is_refused
returns-then-is_refused c =
    let found = (goal.at.returns-then-is_refused c).In-Ok in
    ap not (ne_eqb (of_z w64 c.in-Ok.row.status) 0 c.if-is_refused.true) ∙ by_status found {t = false} (is_other (status_fits found) 0 tt c.if-is_refused.true)

pub returns-else-is_refused : goal.returns-else-is_refused
returns-else-is_refused c =
    let found = (goal.at.returns-else-is_refused c).In-Ok in
    c.is_off_ours.ensures ∙ by_status found {t = true} (is_written (status_fits found) 0 tt c.if-is_refused.false)

pub returns-in-Err : goal.returns-in-Err
unfolding is_wrong
returns-in-Err c = sym (ap (is_wrong c.args.allowed) (sym c.in-Err.ensures))
