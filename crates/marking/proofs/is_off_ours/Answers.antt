-- `is_off_ours` tells whether a row is further from its own place than allowed.
-- The place is that of the row's fields, read back, and each arm is the definition's case.
use borrow.Author.Rules.{rules}
use mathlib.Core.Path.{◌≡◌, ap, ◌∙◌}
use lib.IntN.{ℤ}
use Rattle.integers.proofs.Cast.{read}
use Rattle.dates.specs.declared.Date.TheVariants.{Minutes}
use Rattle.places.specs.Answer.{place_answer}
use Rattle.rows.specs.Fields.{row_table}
use Rattle.marking.specs.Wrong.{our_answer, is_off_by}
use Rattle.marking.proofs.is_off_ours.Goals as goal
use Rattle.marking.proofs.is_off_ours.Goals.{Start}
use Rattle.std.specs.Prelude.{Result}
use Rattle.frames.specs.declared.Coordinates.{Coordinates}
use Rattle.refusals.specs.declared.Refusal.{Refusal}

row_read : (c : Start) → let r = c.args.row in (read r.minutes ≡ r.minutes) × (read r.body ≡ r.body) × (read r.frame ≡ r.frame)
row_read c = search rules

-- the answer for the row's date, body and frame, of the numbers themselves
answered : (s : Start) {o : Result (ℤ × Coordinates) Refusal} → o ≡ place_answer (Minutes (read s.args.row.minutes)) row_table (read s.args.row.body) (read s.args.row.frame) → o ≡ our_answer s.args.row
answered s e = let r = row_read s in e ∙ (λ i. place_answer (Minutes (r.0 i)) row_table (r.1 i) (r.2 i))

pub returns-in-Ok : goal.returns-in-Ok
returns-in-Ok c = c.is_off.ensures ∙ ap (is_off_by c.args.allowed c.args.row) (answered (goal.at.returns-in-Ok c).Start c.in-Ok.ensures)

pub returns-in-Err : goal.returns-in-Err
returns-in-Err c = ap (is_off_by c.args.allowed c.args.row) (answered (goal.at.returns-in-Err c).Start c.in-Err.ensures)
