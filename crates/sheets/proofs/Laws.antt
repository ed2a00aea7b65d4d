-- The row call and the sheet call by what their tests told, and what a step and a count that are taken are.
-- By the cases of the definitions.
use borrow.Author.Tests.{le-leb, lt-leb}
use mathlib.Core.Bool.{Bool, true, false}
use mathlib.Core.List.{List, ◌++◌}
use mathlib.Core.Path.{◌≡◌, refl, ap, subst⁻¹}
use Prim.Native.Nat.{ℕ, ◌+◌, ◌*◌, ◌≤◌, ◌<◌}
use native.Mathlib.Numerals.{add-one}
use lib.Dec.{T, leb}
use lib.IntN.{ℤ, pos, nat_abs}
use lib.ListN.{length, drop}
use mir.Facts.{and_yes}
use Rattle.std.specs.Prelude.{Ok, Err, Result}
use Rattle.integers.specs.Range.{Within, FromTo, is_from_to}
use Rattle.integers.proofs.Ranges.{of_test, range_most}
use Rattle.refusals.specs.declared.Refusal.TheVariants.{ShortBuffer, BadCount}
use Rattle.refusals.specs.Number.{number_of}
use Rattle.dates.specs.declared.Date.{Date}
use Rattle.dates.specs.Moment.{is_step}
use Rattle.dates.proofs.Laws.{step_small}
use Rattle.places.specs.Answer.{place_answer}
use Rattle.rows.specs.Fields.{row_size, row_table, good_row}
use Rattle.rows.proofs.RoundTrip.{a_row_has_its_size, a_refused_row_has_its_size}
use Rattle.sheets.specs.Row.{bytes_for, row_told, answer_written, row_if, row_written}
use Rattle.sheets.specs.Sheet.{answer_at, rows_of, one_if, good_of, is_sheet, sheet_if, sheet_written}
use Rattle.frames.specs.declared.Coordinates.{Coordinates}
use Rattle.refusals.specs.declared.Refusal.{Refusal}
use Rattle.refusals.specs.Number.{status_of}

pub bytes_long : (body frame : ℤ) (answer : Result (ℤ × Coordinates) Refusal) → length (bytes_for body frame answer) ≡ row_size
bytes_long body frame (Ok (m, p)) = a_row_has_its_size (good_row body frame m p.x p.y p.z)
bytes_long body frame (Err r) = a_refused_row_has_its_size (number_of r)

-- the status of an answer's row is the number of the answer
pub row_status_is : (answer : Result (ℤ × Coordinates) Refusal) → status_of (row_told answer) ≡ status_of answer
row_status_is (Ok (m, p)) = refl
row_status_is (Err r) = refl

-- ---- the row of a date
module _ (date : Date) (body frame : ℤ) (before : List ℕ) where
  pub row_short : length before < row_size → row_written date body frame before ≡ (Err ShortBuffer, before)
  unfolding row_written
  row_short h = ap (λ (b : Bool). row_if b body frame (place_answer date row_table body frame) before) (lt-leb row_size (length before) h)

  pub row_by : row_size ≤ length before → row_written date body frame before ≡ answer_written body frame (place_answer date row_table body frame) before
  unfolding row_written
  row_by h = ap (λ (b : Bool). row_if b body frame (place_answer date row_table body frame) before) (le-leb row_size (length before) h)

-- ---- the sheet
module _ (start : Date) (step body frame : ℤ) where
  pub good_more : (i : ℕ) → good_of start step body frame (i + 1) ≡ good_of start step body frame i + one_if (answer_at start step body frame i)
  unfolding good_of
  good_more i = rw add-one

  module _ (count : ℤ) (before : List ℕ) where
    pub no_sheet : is_sheet step count ≡ false → sheet_written start step count body frame before ≡ (Err BadCount, before)
    unfolding sheet_written
    no_sheet e = ap (λ (b : Bool). sheet_if b (leb (row_size * nat_abs count) (length before)) start step (nat_abs count) body frame before) e

    pub sheet_short : is_sheet step count ≡ true → length before < row_size * nat_abs count → sheet_written start step count body frame before ≡ (Err ShortBuffer, before)
    unfolding sheet_written
    sheet_short e h = λ i. sheet_if (e i) (lt-leb (row_size * nat_abs count) (length before) h i) start step (nat_abs count) body frame before

    pub sheet_by : is_sheet step count ≡ true → row_size * nat_abs count ≤ length before
        → sheet_written start step count body frame before ≡ (Ok (good_of start step body frame (nat_abs count)), rows_of start step body frame (nat_abs count) ++ drop (row_size * nat_abs count) before)
    unfolding sheet_written
    sheet_by e h = λ i. sheet_if (e i) (le-leb (row_size * nat_abs count) (length before) h i) start step (nat_abs count) body frame before

-- ---- a step and a count that are taken
pub record Taken (step count : ℤ) : Type 0 where
  pub step_small : Within 1000000 step
  pub count_range : FromTo (pos 0) (pos 400) count
  pub count_small : nat_abs count ≤ 400

pub taken : (step count : ℤ) → is_sheet step count ≡ true → Taken step count
unfolding is_sheet
taken step count e =
    let t = and_yes (is_step step) (is_from_to (pos 0) (pos 400) count) (subst⁻¹ T e tt) in
    let c = of_test (pos 0) (pos 400) count t.1 in
    record {
      step_small = step_small step t.0;
      count_range = c;
      count_small = range_most 0 count c;
    }
