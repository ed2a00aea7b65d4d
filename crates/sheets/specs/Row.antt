-- Document 01, "Rows and sheets": the row of a date, a body and a frame, byte for byte; refusals 1, 2, 3, 4 stand in the row, and
-- refusal 8 leaves the buffer untouched.
use Rattle.std.specs.Prelude.{Bool, true, false, List, ◌++◌, ℕ, leb, ℤ, length, drop, ⊤, Result, Ok, Err}
use Rattle.refusals.specs.declared.Refusal.{Refusal}
use Rattle.refusals.specs.declared.Refusal.TheVariants.{ShortBuffer}
use Rattle.refusals.specs.Number.{number_of}
use Rattle.dates.specs.declared.Date.{Date}
use Rattle.places.specs.Answer.{place_answer}
use Rattle.rows.specs.declared.Row.{Row}
use Rattle.rows.specs.Fields.{row_size, row_table, good_row, bare_row, row_bytes, refused_bytes}
use Rattle.frames.specs.declared.Coordinates.{Coordinates}

-- the fields of the row of an answer: the place with its minute, or nothing but the refusal's number
abbrev pub row_for : ℤ → ℤ → Result (ℤ × Coordinates) Refusal → Row
row_for body frame (Ok found) = let p = found.1 in good_row body frame found.0 p.x p.y p.z
row_for body frame (Err r) = bare_row (number_of r)

-- its bytes
abbrev pub bytes_for : ℤ → ℤ → Result (ℤ × Coordinates) Refusal → List ℕ
bytes_for body frame (Ok found) = let p = found.1 in row_bytes (good_row body frame found.0 p.x p.y p.z)
bytes_for body frame (Err r) = refused_bytes (number_of r)

-- what it tells: nothing but that it was found, or the refusal
abbrev pub row_told : Result (ℤ × Coordinates) Refusal → Result ⊤ Refusal
row_told (Ok found) = Ok tt
row_told (Err r) = Err r

-- that, and the bytes that it leaves: "Bytes after the row stay"
abbrev pub answer_written : ℤ → ℤ → Result (ℤ × Coordinates) Refusal → List ℕ → Result ⊤ Refusal × List ℕ
answer_written body frame answer before = (row_told answer, bytes_for body frame answer ++ drop row_size before)

-- by whether there is room: refusal 8, "buffer untouched"
abbrev pub row_if : (room : Bool) → ℤ → ℤ → Result (ℤ × Coordinates) Refusal → List ℕ → Result ⊤ Refusal × List ℕ
row_if false body frame answer before = (Err ShortBuffer, before)
row_if true body frame answer before = answer_written body frame answer before

-- what a row call tells, and the bytes that are left; the place is Table 1's (02, Item 1)
unfoldable pub row_written : Date → ℤ → ℤ → List ℕ → Result ⊤ Refusal × List ℕ
row_written date body frame before = row_if (leb row_size (length before)) body frame (place_answer date row_table body frame) before
