-- `row` answers, and leaves its bytes, as the definition says.
-- Its test is the definition's, and `put_answer` leaves the row of the date's answer.
use mathlib.Core.Path.{◌≡◌, sym, ap, ◌∙◌}
use lib.IntN.{ℤ}
use Rattle.integers.proofs.Cast.{read, back}
use Rattle.sheets.specs.Row.{answer_written, row_written}
use Rattle.sheets.proofs.Laws.{row_short, row_by}
use Rattle.sheets.proofs.row.Goals as goal
use Rattle.sheets.proofs.row.Goals.{Start}
use Rattle.std.specs.Prelude.{Result}
use Rattle.frames.specs.declared.Coordinates.{Coordinates}
use Rattle.refusals.specs.declared.Refusal.{Refusal}

pub returns-then-bytes-lt-ROW_BYTES : goal.returns-then-bytes-lt-ROW_BYTES
returns-then-bytes-lt-ROW_BYTES c =
    sym (row_short c.args.date c.args.body c.args.frame c.args.bytes.now c.if-bytes-lt-ROW_BYTES.true)

-- the definition, of the numbers that the machine reads back
as_read : (s : Start) → row_written s.args.date (read s.args.body) (read s.args.frame) s.args.bytes.now ≡ row_written s.args.date s.args.body s.args.frame s.args.bytes.now
as_read s = λ i. row_written s.args.date (back s.args.body s.ranges.body i) (back s.args.frame s.ranges.frame i) s.args.bytes.now

pub returns : goal.returns
returns c =
    c.put_answer.ensures
    ∙ ap (λ (x : Result (ℤ × Coordinates) Refusal). answer_written (read c.args.body) (read c.args.frame) x c.args.bytes.now) c.place_after.ensures
    ∙ sym (row_by c.args.date (read c.args.body) (read c.args.frame) c.args.bytes.now c.if-bytes-lt-ROW_BYTES.false)
    ∙ as_read (goal.at.returns c).Start
