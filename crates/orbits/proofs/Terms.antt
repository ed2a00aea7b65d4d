-- The further terms of M: how large they are, and that numbers that are 0 give none, so that by Table 1 M is document 01's own, L minus the
-- longitude of perihelion and no more. A drift of 0 is 0, and so is a product with 0.
use mathlib.Core.List.{List}
use mathlib.Core.Path.{◌≡◌, refl, ap, ◌∙◌}
use Prim.Native.Nat.{◌^◌}
use native.Mathlib.Omega.{arith}
use lib.Dec.{ltb→lt}
use lib.IntN.{ℤ, pos, ◌+ℤ◌, ◌-ℤ◌, zero-*ℤ, +ℤ_idr}
use mir.Syntax.{w64}
use mir.Val.{SFits, of_z}
use Rattle.integers.specs.Range.{Within}
use Rattle.integers.specs.Floor.{floor_div, unit_product}
use Rattle.integers.specs.Triple.{at}
use Rattle.integers.proofs.Cast.{same_bits, pos_fits}
use Rattle.integers.proofs.Number.{w_add, w_mul, w_floor, w_more}
use Rattle.angles.specs.Unit.{hundred_millionths, in_millionths, one_turn}
use Rattle.angles.specs.Sine.{sine_of, cosine_of}
use Rattle.angles.proofs.Laws.{sine_small, cosine_small}
use Rattle.dates.specs.Minute.{drift_of}
use Rattle.dates.proofs.Laws.{drift_within}
use Rattle.tables.specs.Table.{no_terms, table_row, table_terms}
use Rattle.orbits.specs.declared.Elements.{Elements}
use Rattle.orbits.specs.Elements.{elements_at, square_term, phase_of, periodic_terms, extra_of, mean_anomaly_of, mean_at}
use Rattle.orbits.specs.Range.{TermsFit}

-- ---- how large they are
pub once_within : {b m : ℤ} → Within 5000000000 b → Within 2630000000 m → Within 260000000000 (drift_of b m)
once_within p q = drift_within 260000000000 p q (omega arith)

pub square_within : {b m : ℤ} → Within 5000000000 b → Within 2630000000 m → Within 14000000000000 (square_term b m)
unfolding square_term
square_within p q = drift_within 14000000000000 (once_within p q) q (omega arith)

product_within : {c w : ℤ} → Within 5000000000 c → Within 1000000000 w → Within 5000000000 (unit_product c w)
product_within p q = w_floor 999999999 5000000000 (w_mul p q) tt

periodic_within : {c s : ℤ} (f m : ℤ) → Within 5000000000 c → Within 5000000000 s → Within 10000000000 (periodic_terms c s f m)
unfolding periodic_terms
periodic_within f m p q = w_add (product_within p (cosine_small (phase_of f m))) (product_within q (sine_small (phase_of f m)))

module _ {terms : List ℤ} {m : ℤ} (h : TermsFit terms m) where
  pub square_small : Within 14000000000000 (square_term (at terms 0) m)
  square_small = square_within (h.each 0) h.minute

  pub periodic_small : Within 10000000000 (periodic_terms (at terms 1) (at terms 2) (at terms 3) m)
  periodic_small = periodic_within (at terms 3) m (h.each 1) (h.each 2)

  pub extra_within : Within 1000000000000000000 (extra_of terms m)
  extra_within = w_more (w_add square_small periodic_small) tt

-- ---- numbers that are 0 give none
no_drift : (m : ℤ) → drift_of (pos 0) m ≡ pos 0
unfolding drift_of
no_drift m = ap (λ (z : ℤ). floor_div z 52596000) (zero-*ℤ m)

pub no_square : (m : ℤ) → square_term (pos 0) m ≡ pos 0
unfolding square_term
no_square m = ap (λ (z : ℤ). drift_of z m) (no_drift m) ∙ no_drift m

no_product : (w : ℤ) → unit_product (pos 0) w ≡ pos 0
no_product w = ap (λ (z : ℤ). floor_div z 1000000000) (zero-*ℤ w)

pub no_periodic : (f m : ℤ) → periodic_terms (pos 0) (pos 0) f m ≡ pos 0
unfolding periodic_terms
no_periodic f m = λ i. no_product (cosine_of (phase_of f m)) i +ℤ no_product (sine_of (phase_of f m)) i

pub no_extra : (m : ℤ) → extra_of no_terms m ≡ pos 0
no_extra m = λ i. no_square m i +ℤ no_periodic (pos 0) m i

-- ---- Table 1: its M is the general formula with zeros, and no more than document 01's step 2
pub table_1_has_none : (body : ℤ) → table_terms (pos 1) body ≡ no_terms
unfolding table_terms
table_1_has_none body = refl

table_1_adds_none : (body m : ℤ) → extra_of (table_terms (pos 1) body) m ≡ pos 0
table_1_adds_none body m = ap (λ (t : List ℤ). extra_of t m) (table_1_has_none body) ∙ no_extra m

-- the same where the machine tells Table 1 by its bits
pub none_by_bits : {table : ℤ} (body m : ℤ) → SFits w64 table → of_z w64 table ≡ 1 → extra_of (table_terms table body) m ≡ pos 0
none_by_bits body m f e = ap (λ (t : ℤ). extra_of (table_terms t body) m) (same_bits f (pos_fits 1 (ltb→lt 1 (2 ^ 63) tt)) e) ∙ table_1_adds_none body m

-- "M is L minus the longitude of perihelion", divided by 100 with floor and brought to one turn
abbrev pub plain_mean : Elements → ℤ
plain_mean x = one_turn (in_millionths (hundred_millionths x.longitude -ℤ hundred_millionths x.perihelion))

pub table_1_mean : (body m : ℤ) → mean_at (table_row (pos 1) body) (table_terms (pos 1) body) m ≡ plain_mean (elements_at (table_row (pos 1) body) m)
table_1_mean body m =
    let x = elements_at (table_row (pos 1) body) m in
    let d = hundred_millionths x.longitude -ℤ hundred_millionths x.perihelion in
    ap (mean_anomaly_of x) (table_1_adds_none body m)
    ∙ ap (λ (z : ℤ). one_turn (in_millionths z)) (+ℤ_idr d)
