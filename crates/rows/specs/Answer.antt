-- Document 01, "Rows and sheets" and refusals 8 and 9: the answer to a reader, and to a writer with what it leaves behind.
use Rattle.std.specs.Prelude.{Bool, true, false, ◌&&◌, List, ◌++◌, ℕ, leb, pos, length, drop, Result, Ok, Err, ⊤}
use Rattle.refusals.specs.declared.Refusal.{Refusal}
use Rattle.refusals.specs.declared.Refusal.TheVariants.{ShortBuffer, NoRow}
use Rattle.rows.specs.declared.Row.{Row}
use Rattle.layouts.specs.Layout.{numbers_in}
use Rattle.rows.specs.Fields.{row_size, widths1, bare_row, row_bytes, row_from, is_row, are_row}

-- by whether the bytes are a row: the row, or refusal 9
abbrev pub found_if : (is_row : Bool) → Row → Result Row Refusal
found_if true row = Ok row
found_if false row = Err NoRow

-- "a reader takes the first 38 bytes"; refusal 9: "bytes are no row (a slice under 38 too)"
unfoldable pub read_of : List ℕ → Result Row Refusal
read_of bytes = found_if (leb row_size (length bytes) && are_row (numbers_in widths1 bytes)) (row_from (numbers_in widths1 bytes))

-- the row of an answer, zeros where there is none
abbrev pub read_row : Result Row Refusal → Row
read_row (Ok row) = row
read_row (Err refusal) = bare_row (pos 0)

-- by whether there is room, and whether the fields are a row's. Refusal 8: "buffer untouched"; 9: "fields to be written are
-- none", "a buffer untouched"; else "bytes after the row stay"
abbrev pub written_if : (room is_row : Bool) → Row → List ℕ → Result ⊤ Refusal × List ℕ
written_if false is_row row before = (Err ShortBuffer, before)
written_if true false row before = (Err NoRow, before)
written_if true true row before = (Ok tt, row_bytes row ++ drop row_size before)

-- the answer to a writer, and the bytes that it leaves
unfoldable pub written : Row → List ℕ → Result ⊤ Refusal × List ℕ
written row before = written_if (leb row_size (length before)) (is_row row) row before
