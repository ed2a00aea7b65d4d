-- Document 02, Item 5, "Marking pupils' sheets": which row of a sheet is wrong. It "is no row, or is a refused one, or has a coordinate further off
-- than allowed".
use Rattle.std.specs.Prelude.{Bool, true, ◌||◌, List, ℕ, ◌*◌, ltb, ℤ, nat_abs, ◌-ℤ◌, drop, Err, Ok, Result}
use Rattle.dates.specs.declared.Date.TheVariants.{Minutes}
use Rattle.frames.specs.declared.Coordinates.{Coordinates}
use Rattle.places.specs.Answer.{place_answer}
use Rattle.rows.specs.declared.Row.{Row}
use Rattle.rows.specs.Fields.{row_size, row_table, is_refused}
use Rattle.rows.specs.Answer.{read_of}
use Rattle.refusals.specs.declared.Refusal.{Refusal}

-- "further off than allowed": the difference of any two numbers, exact
abbrev pub is_further : (allowed : ℕ) → (theirs ours : ℤ) → Bool
is_further allowed theirs ours = ltb allowed (nat_abs (theirs -ℤ ours))

-- "has a coordinate further off than allowed"
abbrev pub is_off : (allowed : ℕ) → Row → Coordinates → Bool
is_off allowed row ours = is_further allowed row.x ours.x || is_further allowed row.y ours.y || is_further allowed row.z ours.z

-- our own answer for a row: by its own body, frame and minute
abbrev pub our_answer : Row → Result (ℤ × Coordinates) Refusal
our_answer row = place_answer (Minutes row.minutes) row_table row.body row.frame

-- by our own answer. A row whose place we refuse is wrong; no good row has such a place (proofs, Rows)
abbrev pub is_off_by : (allowed : ℕ) → Row → Result (ℤ × Coordinates) Refusal → Bool
is_off_by allowed row (Ok found) = is_off allowed row found.1
is_off_by allowed row (Err r) = true

-- whether a row is wrong, by what a reader says of its bytes: "no row, or is a refused one, or has a coordinate further off"
unfoldable pub is_wrong : (allowed : ℕ) → Result Row Refusal → Bool
is_wrong allowed (Err r) = true
is_wrong allowed (Ok row) = is_refused row || is_off_by allowed row (our_answer row)

-- row k of a sheet, k counted from 0
abbrev pub is_wrong_at : (allowed : ℕ) → List ℕ → ℕ → Bool
is_wrong_at allowed bytes k = is_wrong allowed (read_of (drop (row_size * k) bytes))
