-- A row of twelve whose numbers hold their bounds at the two ends of a span of minutes gives elements in range on every minute between.
-- A drift lies between those at the two ends (`drift_between`), so that two tests do for all minutes; computed over the rows of both tables.
use lib.Signed.{◌≤ℤ◌}
use mathlib.Core.Bool.{Bool, true, false, ◌&&◌}
use mathlib.Core.List.{List, [], ◌∷◌}
use Prim.Native.Nat.{ℕ, zero, suc, ◌+◌, ◌-◌, ◌*◌, ◌≤◌}
use native.Mathlib.Nat as NatL
use native.Mathlib.Omega.{arith}
use lib.Dec.{T, leb, leb→le}
use lib.IntN.{ℤ, pos, nat_abs}
use lib.ListN.{get_or}
use mir.Facts.{and_yes}
use Rattle.integers.specs.Range.{Within, FromTo, is_from_to}
use Rattle.integers.specs.Sign.{same}
use Rattle.integers.specs.Triple.{at, PartsWithin}
use Rattle.integers.proofs.Difference.{zarith}
use Rattle.integers.proofs.Number.{w_add, w_more}
use Rattle.integers.proofs.Table.{all_within, all_within_lem, every_row, at_row}
use Rattle.integers.proofs.Ranges.{of_test, range_within, range_most}
use Rattle.dates.specs.declared.Interval.{Interval}
use Rattle.dates.specs.Minute.{drift_of}
use Rattle.dates.specs.Moment.{Covers}
use Rattle.dates.proofs.Laws.{drift_within, drift_between}
use Rattle.tables.specs.Table.{table1, table2, terms2, Body, rows_if, table_row, no_terms, terms_if, table_terms, interval1, interval2, interval_if, interval_of, OnTable}
use Rattle.tables.proofs.Laws.{first_near, last_near, body_index}
use Rattle.orbits.specs.Elements.{element_in, elements_at, mean_at}
use Rattle.orbits.specs.Place.{place_at}
use Rattle.orbits.specs.Range.{RowFits, TermsFit, AxisFits, ElementsFit}
use Rattle.orbits.proofs.Bounds.{place_within}

-- ---- an element on every minute of a span
pub element_between : (row : List ℤ) (k : ℕ) (span : Interval) (m lo hi : ℤ) → Covers span m → FromTo lo hi (element_in row k span.first) → FromTo lo hi (element_in row k span.last) → FromTo lo hi (element_in row k m)
element_between row k span m lo hi h a b = drift_between (at row k) (at row (k + 6)) span.first span.last m lo hi h a b

-- the larger of two
abbrev most : ℕ → ℕ → ℕ
most x y = x + (y - x)

-- ---- what is asked of a row and a span: small numbers, and a and e in range at both ends
module _ (span : Interval) (row : List ℤ) where
  abbrev a_most : ℕ
  a_most = most (nat_abs (element_in row 0 span.first)) (nat_abs (element_in row 0 span.last))

  abbrev e_most : ℕ
  e_most = most (nat_abs (element_in row 1 span.first)) (nat_abs (element_in row 1 span.last))

  -- an element is not negative at either end
  abbrev risen : ℕ → Bool
  risen k = is_from_to (pos 0) (pos (most (nat_abs (element_in row k span.first)) (nat_abs (element_in row k span.last)))) (element_in row k span.first) && is_from_to (pos 0) (pos (most (nat_abs (element_in row k span.first)) (nat_abs (element_in row k span.last)))) (element_in row k span.last)

  abbrev pub spans : Bool
  spans = all_within 100000000000000 row && (risen 0 && (risen 1 && (leb a_most 4500000000 && (leb e_most 90000000 && leb (a_most * (100000000 + e_most)) 500000000000000000))))

-- the same as facts
pub record Spans (span : Interval) (row : List ℤ) : Type 0 where
  pub each : T (all_within 100000000000000 row)
  pub a : T (risen span row 0)
  pub e : T (risen span row 1)
  pub a_high : a_most span row ≤ 4500000000
  pub e_high : e_most span row ≤ 90000000
  pub far : a_most span row * (100000000 + e_most span row) ≤ 500000000000000000

pub spans_by : (span : Interval) (row : List ℤ) → T (spans span row) → Spans span row
spans_by span row t =
    let high = leb (a_most span row) 4500000000 in
    let long = leb (e_most span row) 90000000 in
    let far = leb (a_most span row * (100000000 + e_most span row)) 500000000000000000 in
    let x = and_yes (all_within 100000000000000 row) (risen span row 0 && (risen span row 1 && (high && (long && far)))) t in
    let y = and_yes (risen span row 0) (risen span row 1 && (high && (long && far))) x.1 in
    let z = and_yes (risen span row 1) (high && (long && far)) y.1 in
    let u = and_yes high (long && far) z.1 in
    let v = and_yes long far u.1 in
    record {
      each = x.0;
      a = y.0;
      e = z.0;
      a_high = leb→le (a_most span row) 4500000000 u.0;
      e_high = leb→le (e_most span row) 90000000 v.0;
      far = leb→le (a_most span row * (100000000 + e_most span row)) 500000000000000000 v.1;
    }

-- ---- the elements on a minute of the span, of which no end is beyond 50 centuries
module _ (span : Interval) (row : List ℤ) (s : Spans span row) (first_near : Within 2630000000 span.first) (last_near : Within 2630000000 span.last) (m : ℤ) (h : Covers span m) where
  minute : Within 2630000000 m
  minute = range_within span.first span.last m 2630000000 h first_near.within last_near.within

  pub row_fits : RowFits row m
  row_fits = record { each = all_within_lem 100000000000000 row s.each; minute = minute }

  -- one of a and e
  stays : (k : ℕ) → T (risen span row k) → FromTo (pos 0) (pos (most (nat_abs (element_in row k span.first)) (nat_abs (element_in row k span.last)))) (element_in row k m)
  stays k t =
      let hi = pos (most (nat_abs (element_in row k span.first)) (nat_abs (element_in row k span.last))) in
      let b = and_yes (is_from_to (pos 0) hi (element_in row k span.first)) (is_from_to (pos 0) hi (element_in row k span.last)) t in
      element_between row k span m (pos 0) hi h (of_test (pos 0) hi (element_in row k span.first) b.0) (of_test (pos 0) hi (element_in row k span.last) b.1)

  axis : AxisFits (element_in row 0 m) (element_in row 1 m)
  axis =
      let a = range_most 0 (element_in row 0 m) (stays 0 s.a) in
      let e = stays 1 s.e in
      let l = range_most 0 (element_in row 1 m) e in
      record {
        axis = NatL.le_trans a s.a_high;
        elliptic = record { low = e.low; high = lower (element_in row 1 m) e.high s.e_high };
        aphelion = NatL.le_trans (NatL.mul-le-mul a (NatL.add-le-add (NatL.le_refl 100000000) l)) s.far;
      }
    where
      lower : (z : ℤ) {n : ℕ} → z ≤ℤ pos n → n ≤ 90000000 → z ≤ℤ pos 90000000
      lower z p q = omega (zarith, p)

  angle : (k : ℕ) → Within 1000000000000000000 (element_in row k m)
  angle k = w_more (w_add (row_fits.each k) (drift_within 5100000000000000 (row_fits.each (k + 6)) minute (omega arith))) tt

  pub elements_fit : ElementsFit (elements_at row m)
  elements_fit = record { axis = axis; longitude = angle 3; perihelion = angle 4; node = angle 5 }

-- ---- the tables
table_spans : (table body : ℤ) → Body body → Spans (interval_of table) (table_row table body)
unfolding interval_of table_row table1 table2 drift_of
table_spans table body h = go (same table (pos 1))
  where
    go : (first : Bool) → Spans (interval_if first) (get_or (rows_if first) (nat_abs body - 1) [])
    go true = spans_by interval1 (get_or table1 (nat_abs body - 1) []) (at_row (spans interval1) table1 tt (nat_abs body - 1) (body_index body h))
    go false = spans_by interval2 (get_or table2 (nat_abs body - 1) []) (at_row (spans interval2) table2 tt (nat_abs body - 1) (body_index body h))

-- the numbers of the further terms of M, whatever the table and the body
all_terms : (rows : List (List ℤ)) → T (every_row (all_within 5000000000) rows) → (k : ℕ) → T (all_within 5000000000 (get_or rows k no_terms))
all_terms [] t k = tt
all_terms (r ∷ rows) t zero = (and_yes (all_within 5000000000 r) (every_row (all_within 5000000000) rows) t).0
all_terms (r ∷ rows) t (suc k) = all_terms rows (and_yes (all_within 5000000000 r) (every_row (all_within 5000000000) rows) t).1 k

table_terms_lem : (table body : ℤ) (k : ℕ) → Within 5000000000 (at (table_terms table body) k)
unfolding table_terms terms2
table_terms_lem table body k = go (same table (pos 1))
  where
    go : (first : Bool) → Within 5000000000 (at (get_or (terms_if first) (nat_abs body - 1) no_terms) k)
    go true = all_within_lem 5000000000 (get_or (terms_if true) (nat_abs body - 1) no_terms) (all_terms (terms_if true) tt (nat_abs body - 1)) k
    go false = all_within_lem 5000000000 (get_or (terms_if false) (nat_abs body - 1) no_terms) (all_terms (terms_if false) tt (nat_abs body - 1)) k

module _ (table body m : ℤ) (b : Body body) (h : OnTable table m) where
  pub table_row_fits : RowFits (table_row table body) m
  table_row_fits = row_fits (interval_of table) (table_row table body) (table_spans table body b) (first_near table) (last_near table) m h.covered

  pub table_elements_fit : ElementsFit (elements_at (table_row table body) m)
  table_elements_fit = elements_fit (interval_of table) (table_row table body) (table_spans table body b) (first_near table) (last_near table) m h.covered

  pub table_terms_fit : TermsFit (table_terms table body) m
  table_terms_fit = record { each = table_terms_lem table body; minute = table_row_fits.minute }

  pub table_place_within : PartsWithin 1000000000 (place_at (table_row table body) (table_terms table body) m)
  table_place_within = place_within (elements_at (table_row table body) m) (mean_at (table_row table body) (table_terms table body) m) table_elements_fit
