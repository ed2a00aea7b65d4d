-- Document 01, "Rows and sheets": "A sheet fills rows for start, start + step, and so on, sums taken exactly"; refusal 10, then 8.
use Rattle.std.specs.Prelude.{Bool, true, false, ◌&&◌, List, ◌++◌, ℕ, zero, suc, ◌+◌, ◌*◌, leb, ℤ, pos, nat_abs, ◌*ℤ◌, length, drop, Result, Ok, Err}
use Rattle.integers.specs.Range.{is_from_to}
use Rattle.integers.specs.Buffer.{blocks}
use Rattle.refusals.specs.declared.Refusal.{Refusal}
use Rattle.refusals.specs.declared.Refusal.TheVariants.{ShortBuffer, BadCount}
use Rattle.dates.specs.declared.Date.{Date}
use Rattle.dates.specs.Moment.{is_step}
use Rattle.places.specs.Answer.{place_after}
use Rattle.rows.specs.Fields.{row_size, row_table, status_at}
use Rattle.sheets.specs.Row.{bytes_for}
use Rattle.frames.specs.declared.Coordinates.{Coordinates}

-- the answer of row k, k counted from 0: "each row stands by itself"
abbrev pub answer_at : Date → ℤ → ℤ → ℤ → ℕ → Result (ℤ × Coordinates) Refusal
answer_at start step body frame k = place_after start row_table (step *ℤ pos k) body frame

-- its bytes, and those of the first n rows
abbrev pub bytes_at : Date → ℤ → ℤ → ℤ → ℕ → List ℕ
bytes_at start step body frame k = bytes_for body frame (answer_at start step body frame k)

abbrev pub rows_of : Date → ℤ → ℤ → ℤ → ℕ → List ℕ
rows_of start step body frame n = blocks (bytes_at start step body frame) n

-- "how many of its rows have status 0"
abbrev pub one_if : Result (ℤ × Coordinates) Refusal → ℕ
one_if (Ok (m, p)) = 1
one_if (Err r) = 0

unfoldable pub good_of : Date → ℤ → ℤ → ℤ → ℕ → ℕ
good_of start step body frame zero = 0
good_of start step body frame (suc n) = good_of start step body frame n + one_if (answer_at start step body frame n)

-- refusal 10: "sheet step not 1 to 1,000,000, or count not 0 to 400"
unfoldable pub is_sheet : ℤ → ℤ → Bool
is_sheet step count = is_step step && is_from_to (pos 0) (pos 400) count

-- by whether it is a sheet, and whether there is room for its rows: 10 comes first, then 8, "buffer untouched"
abbrev pub sheet_if : (is_sheet room : Bool) → Date → ℤ → ℕ → ℤ → ℤ → List ℕ → Result ℕ Refusal × List ℕ
sheet_if false room start step n body frame before = (Err BadCount, before)
sheet_if true false start step n body frame before = (Err ShortBuffer, before)
sheet_if true true start step n body frame before = (Ok (good_of start step body frame n), rows_of start step body frame n ++ drop (row_size * n) before)

-- how many rows have status 0, or the refusal; and the bytes that are left
unfoldable pub sheet_written : Date → ℤ → ℤ → ℤ → ℤ → List ℕ → Result ℕ Refusal × List ℕ
sheet_written start step count body frame before =
    sheet_if (is_sheet step count) (leb (row_size * nat_abs count) (length before)) start step (nat_abs count) body frame before

-- how many rows of a sheet have status 0: with a refusal "count 0"
abbrev pub sheet_good : Result ℕ Refusal → ℕ
sheet_good (Ok good) = good
sheet_good (Err r) = 0

-- how many of the first n rows of a buffer have status 0
abbrev pub one_for : ℕ → ℕ
one_for zero = 1
one_for (suc status) = 0

unfoldable pub good_in : List ℕ → ℕ → ℕ
good_in bytes zero = 0
good_in bytes (suc n) = good_in bytes n + one_for (status_at bytes n)
