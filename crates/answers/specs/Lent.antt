-- What C gets back of calls on lent bytes: document 01's number, what was read, how many rows are good or which row is wrong, and the bytes left.
use Rattle.std.specs.Prelude.{List, ℕ, ℤ, Option, Result, ⊤}
use Rattle.refusals.specs.declared.Refusal.{Refusal}
use Rattle.refusals.specs.Number.{status_of}
use Rattle.rows.specs.declared.Row.{Row}
use Rattle.rows.specs.Answer.{read_row}
use Rattle.sheets.specs.Sheet.{sheet_good}
use Rattle.marking.specs.Mark.{mark_row}
use Rattle.answers.specs.declared.CRow.{CRow}
use Rattle.answers.specs.declared.CSheet.{CSheet}
use Rattle.answers.specs.declared.CMark.{CMark}

-- the row of seven fields
abbrev pub row_of_fields : ℤ → ℤ → ℤ → ℤ → ℤ → ℤ → ℤ → Row
row_of_fields status body frame minutes x y z = record { status = status; body = body; frame = frame; minutes = minutes; x = x; y = y; z = z }

-- a row that was read, and refusal 9 with zeros
abbrev pub row_fields : ℤ → Row → CRow
row_fields s row = record { status = s; row_status = row.status; body = row.body; frame = row.frame; minutes = row.minutes; x = row.x; y = row.y; z = row.z }

abbrev pub c_row : Result Row Refusal → CRow
c_row a = row_fields (status_of a) (read_row a)

-- the number of what a writer or a row call answers, with the bytes left
abbrev pub written_number : Result ⊤ Refusal × List ℕ → ℤ × List ℕ
written_number w = (status_of w.0, w.1)

-- a sheet's answer, with the bytes left
abbrev pub c_sheet : Result ℕ Refusal → CSheet
c_sheet a = record { status = status_of a; good = sheet_good a }

abbrev pub sheet_number : Result ℕ Refusal × List ℕ → CSheet × List ℕ
sheet_number w = (c_sheet w.0, w.1)

-- a marker's answer: the place of the first wrong row, 0 where there is none
abbrev pub c_mark : Result (Option ℕ) Refusal → CMark
c_mark a = record { status = status_of a; row = mark_row a }
