-- Document 02, Item 5, "Marking pupils' sheets": the answer to a marker's call. "Refusals: 10 for a count not 0 to 400 or a difference outside its
-- range, then 8 for a slice too short."
use Rattle.std.specs.Prelude.{Bool, true, false, ◌&&◌, List, ℕ, zero, suc, ◌*◌, leb, ℤ, pos, nat_abs, length, Option, Some, None, Result, Ok, Err}
use Rattle.integers.specs.First.{first_picked}
use Rattle.integers.specs.Range.{is_from_to}
use Rattle.refusals.specs.declared.Refusal.TheVariants.{ShortBuffer, BadCount}
use Rattle.refusals.specs.declared.Refusal.{Refusal}
use Rattle.rows.specs.Fields.{row_size}
use Rattle.marking.specs.Wrong.{is_wrong_at}

-- "a number of rows up to 400 and an allowed difference from 0 to 1,000,000 units"
unfoldable pub is_markable : (count allowed : ℤ) → Bool
is_markable count allowed = is_from_to (pos 0) (pos 400) count && is_from_to (pos 0) (pos 1000000) allowed

-- by the place of the first wrong row, 0 where there is none: "name by its place, counted from 1, the first row"; "say "good" exactly when there is none"
abbrev pub mark_at : (place : ℕ) → Result (Option ℕ) Refusal
mark_at zero = Ok None
mark_at (suc k) = Ok (Some (suc k))

-- by whether count and difference are in range, and whether the slice has the rows
abbrev pub mark_if : (is_markable room : Bool) → List ℕ → (count allowed : ℕ) → Result (Option ℕ) Refusal
mark_if false room bytes count allowed = Err BadCount
mark_if true false bytes count allowed = Err ShortBuffer
mark_if true true bytes count allowed = mark_at (first_picked (is_wrong_at allowed bytes) count)

unfoldable pub mark_answer : List ℕ → (count allowed : ℤ) → Result (Option ℕ) Refusal
mark_answer bytes count allowed = mark_if (is_markable count allowed) (leb (row_size * nat_abs count) (length bytes)) bytes (nat_abs count) (nat_abs allowed)

-- the place of the first wrong row, 0 where there is none
abbrev pub mark_row : Result (Option ℕ) Refusal → ℕ
mark_row (Ok None) = 0
mark_row (Ok (Some place)) = place
mark_row (Err r) = 0
