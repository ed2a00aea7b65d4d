-- What follows from a moment by a table's interval: there is the table, its minute lies in the interval, and a refusal is 1, 2 or 11; the
-- offset goes into the minute. The laws of `dates` on any interval, applied to that of the table.
use native.Mathlib.Omega.{arith}
use mathlib.Core.Bool.{Bool, true, false}
use mathlib.Core.List.{List}
use mathlib.Core.Logic.{◌⊎◌, inl, inr}
use mathlib.Core.Path.{◌≡◌, refl, sym, ap, subst₂, ◌∙◌}
use Prim.Native.Nat.{ℕ, zero, suc, ◌-◌, ◌^◌, ◌≤◌, ◌<◌}
use lib.Dec.{T, ltb, ltb→lt}
use lib.IntN.{ℤ, pos, negsuc, nat_abs, ◌+ℤ◌}
use mir.Syntax.{w64}
use mir.Val.{SFits, of_z}
use Rattle.integers.specs.Range.{Within}
use Rattle.integers.specs.Sign.{same}
use Rattle.integers.proofs.Difference.{zarith}
use Rattle.integers.proofs.Cast.{read, back, same_bits, pos_fits}
use Rattle.integers.proofs.Number.{known, w_lit, w_more}
use Rattle.integers.proofs.Ranges.{is_inside, is_outside, inside_of, outside_of, range_within}
use Rattle.refusals.specs.declared.Refusal.{Refusal}
use Rattle.refusals.specs.declared.Refusal.TheVariants.{NotFinite, OutsideInterval, NoSuchTable}
use Rattle.dates.specs.declared.Date.{Date}
use Rattle.dates.specs.declared.Date.TheVariants.{Minutes}
use Rattle.dates.specs.Minute.{minute_of}
use Rattle.dates.specs.Moment.{tested}
use Rattle.dates.proofs.Laws.{IsSum, not_finite, at_sum, sum_first, accepted_inside, accepted_is, one_or_two}
use Rattle.tables.specs.Table.{KnownTable, Body, is_table, interval_if, interval_of, OnTable, moment_if, moment_after}
use Rattle.std.specs.Prelude.{Err, None, Ok, Option, Some}

-- ---- no end of an interval is beyond 50 centuries
module _ (table : ℤ) where
  pub first_near : Within 2630000000 (interval_of table).first
  unfolding interval_of
  first_near = go (same table (pos 1))
    where
      go : (b : Bool) → Within 2630000000 (interval_if b).first
      go true = w_more (w_lit (interval_if true).first) tt
      go false = w_more (w_lit (interval_if false).first) tt

  pub last_near : Within 2630000000 (interval_of table).last
  unfolding interval_of
  last_near = go (same table (pos 1))
    where
      go : (b : Bool) → Within 2630000000 (interval_if b).last
      go true = w_more (w_lit (interval_if true).last) tt
      go false = w_more (w_lit (interval_if false).last) tt

-- ---- the moment of a date and an offset by a table
module _ (date : Date) (table offset : ℤ) where
  pub after_inside : (m : ℤ) → moment_after date table offset ≡ Ok m → OnTable table m
  unfolding moment_after
  after_inside m h = go (is_table table) (minute_of date) refl h
    where
      go : (b : Bool) (minute : Option ℤ) → is_table table ≡ b → moment_if b (interval_of table) minute offset ≡ Ok m → OnTable table m
      go true minute e f = record { known = inside_of (pos 1) (pos 2) table e; covered = accepted_inside (interval_of table) minute offset m f }
      go false None e f = let z : ◌≡◌ {A = ℕ} 0 1 = cc in absurd (omega arith)
      go false (Some n) e f = let z : ◌≡◌ {A = ℕ} 0 1 = cc in absurd (omega arith)

  -- it is the sum of the date's minute and the offset
  pub after_is : (m : ℤ) → moment_after date table offset ≡ Ok m → IsSum (minute_of date) offset m
  unfolding moment_after
  after_is m h = go (is_table table) (minute_of date) h
    where
      go : (b : Bool) (minute : Option ℤ) → moment_if b (interval_of table) minute offset ≡ Ok m → IsSum minute offset m
      go true minute f = accepted_is (interval_of table) minute offset m f
      go false None f = let z : ◌≡◌ {A = ℕ} 0 1 = cc in absurd (omega arith)
      go false (Some n) f = let z : ◌≡◌ {A = ℕ} 0 1 = cc in absurd (omega arith)

  -- there is no refusal but 1, 2 and 11, and 11 only where there is no such table
  pub after_refused : (r : Refusal) → moment_after date table offset ≡ Err r → ((r ≡ NotFinite) ⊎ (r ≡ OutsideInterval)) ⊎ ((r ≡ NoSuchTable) × (KnownTable table → ⊥))
  unfolding moment_after
  after_refused r h = go (is_table table) (minute_of date) refl h
    where
      go : (b : Bool) (minute : Option ℤ) → is_table table ≡ b → moment_if b (interval_of table) minute offset ≡ Err r → ((r ≡ NotFinite) ⊎ (r ≡ OutsideInterval)) ⊎ ((r ≡ NoSuchTable) × (KnownTable table → ⊥))
      go true minute e f = inl (one_or_two (interval_of table) minute offset r f)
      go false None e f = inl (inl cc)
      go false (Some n) e f = inr (cc, outside_of (pos 1) (pos 2) table e)

  -- and there always: "11, no such table, after 1 and before 2"
  pub after_eleven : (m : ℤ) → minute_of date ≡ Some m → (KnownTable table → ⊥) → moment_after date table offset ≡ Err NoSuchTable
  unfolding moment_after
  after_eleven m e n = λ i. moment_if (is_outside (pos 1) (pos 2) table n i) (interval_of table) (e i) offset

  -- a table that there is tests the sum
  pub after_tested : (m : ℤ) → minute_of date ≡ Some m → KnownTable table → moment_after date table offset ≡ tested (interval_of table) (m +ℤ offset)
  unfolding moment_after
  after_tested m e h = (λ i. moment_if (is_inside (pos 1) (pos 2) table h i) (interval_of table) (e i) offset) ∙ at_sum (interval_of table) m offset

  -- "sums taken exactly": a date of minute m and an offset is the date of their sum
  pub after_minute : (m : ℤ) → minute_of date ≡ Some m → moment_after date table offset ≡ moment_after (Minutes (m +ℤ offset)) table (pos 0)
  unfolding moment_after
  after_minute m e = ap (λ (x : Option ℤ). moment_if (is_table table) (interval_of table) x offset) e ∙ go (is_table table)
    where
      go : (b : Bool) → moment_if b (interval_of table) (Some m) offset ≡ moment_if b (interval_of table) (Some (m +ℤ offset)) (pos 0)
      go true = sum_first (interval_of table) m offset
      go false = refl

  -- "with a start that is not finite every row has status 1"
  pub after_not_finite : minute_of date ≡ None → moment_after date table offset ≡ Err NotFinite
  unfolding moment_after
  after_not_finite e = ap (λ (x : Option ℤ). moment_if (is_table table) (interval_of table) x offset) e ∙ go (is_table table)
    where
      go : (b : Bool) → moment_if b (interval_of table) None offset ≡ Err NotFinite
      go true = not_finite (interval_of table) offset
      go false = refl

-- a minute of a table's interval, as the machine reads it back
pub covered_read : {table m : ℤ} → OnTable table m → read m ≡ m
covered_read {table} {m} h =
    (known (range_within (interval_of table).first (interval_of table).last m 2630000000 h.covered (first_near table).within (last_near table).within) tt).is

-- so is the table
pub table_within : {table m : ℤ} → OnTable table m → Within 2 table
table_within {table} h = range_within (pos 1) (pos 2) table 2 h.known (omega arith) (omega arith)

pub table_read : {table m : ℤ} → OnTable table m → read table ≡ table
table_read h = (known (table_within h) tt).is

pub on_table_read : {table m : ℤ} → SFits w64 table → OnTable table m → OnTable (read table) (read m)
on_table_read {table} f h = subst₂ OnTable (sym (back table f)) (sym (covered_read h)) h

-- ---- a body's place in a list, and what a match tells of a number by its bits
pub body_index : (body : ℤ) → Body body → nat_abs body - 1 < 9
body_index (pos n) h = omega (zarith, h.low, h.high)
body_index (negsuc n) h = absurd h.low.le

-- it is k
pub by_bits : (f : ℤ → List ℤ) {body : ℤ} (k : ℕ) → T (ltb k (2 ^ 63)) → SFits w64 body → of_z w64 body ≡ k → f (pos k) ≡ f body
by_bits f k t fits e = ap f (sym (same_bits fits (pos_fits k (ltb→lt k (2 ^ 63) t)) e))

-- it is none of 1 to k, and so above k
abbrev pub Not : ℤ → ℕ → Type 0
Not z k = of_z w64 z ≡ k → ⊥

abbrev pub NoneTo : ℕ → ℤ → Type 0
NoneTo zero z = Unit {0}
NoneTo (suc k) z = NoneTo k z × Not z (suc k)

pub above : (k n : ℕ) → NoneTo k (pos n) → 1 ≤ n → k < n
above zero n r h = h
above (suc k) n r h = omega (arith, above k n r.0 h, r.1)
