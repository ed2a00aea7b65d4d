-- The Earth is never at the Sun: x² + y² of its HAE place is at least 9,300,000² and |z| at most 250,000, by either table on every minute of its
-- interval, and by any elements like the Earth's whose inclination is at most 0.67 degrees; node and longitudes are free.
-- The inclination is small, so step 5 is nearly a turn in the plane by ω + Ω, which keeps lengths; the place in the plane is far (`Plane`).
use lib.Dec.{T}
use mathlib.Core.Bool.{Bool, true, false}
use mathlib.Core.Path.{◌≡◌, sym, ap, ◌∙◌}
use mathlib.Core.List.{List, []}
use Prim.Native.Nat.{ℕ, ◌+◌, ◌*◌, ◌≤◌}
use native.Mathlib.Nat.{mul-le-mul}
use native.Mathlib.Omega.{arith}
use lib.IntN.{ℤ, pos, negsuc, neg_ℤ, nat_abs, ◌+ℤ◌, ◌-ℤ◌, ◌*ℤ◌, +ℤ_assoc}
use lib.ListN.{get_or}
use Rattle.integers.specs.Range.{Within, FromTo, is_from_to}
use Rattle.integers.specs.Sign.{same}
use Rattle.integers.specs.Triple.{at}
use Rattle.integers.specs.Floor.{unit_product, end_turn}
use Rattle.integers.proofs.Difference.{zarith, up_neg, dn_neg, d_add, d_minus, d_abs, abs_d}
use Rattle.integers.proofs.Ring.{ring, minus_plus, neg_mul, *ℤ-distrib_l, abs_add_le, abs_mul_le}
use Rattle.integers.proofs.Squares.{near_long, turn_squares}
use Rattle.integers.proofs.Ends.{end_rest, floor_ends, end_turn_ends, end_turn_within, abs_more, ends_least, ends_add, ends_neg, times_apart}
use Rattle.integers.proofs.Ranges.{of_test, range_within}
use Rattle.integers.proofs.Number.{w_mul, w_add, w_floor}
use Rattle.angles.specs.Unit.{hundred_millionths}
use Rattle.angles.specs.Sine.{sine_of, cosine_of}
use Rattle.angles.proofs.Laws.{sine_small, cosine_small}
use Rattle.angles.proofs.Squares.{NearCircle, squares}
use Rattle.angles.proofs.Near.{sine_little, cosine_near}
use Rattle.kepler.specs.Eccentric.{eccentric}
use Rattle.dates.specs.declared.Interval.{Interval}
use Rattle.dates.specs.Minute.{drift_of}
use Rattle.dates.specs.Moment.{Covers}
use Rattle.tables.specs.Table.{table1, table2, rows_if, table_row, table_terms, interval1, interval2, interval_if, interval_of}
use Rattle.orbits.specs.declared.Elements.{Elements}
use Rattle.orbits.specs.Elements.{element_in, elements_at, mean_at, argument_of, inclination_of, node_of}
use Rattle.orbits.specs.Place.{coefficients_of, ecliptic_of, plane_x, plane_y, place_of, place_at}
use Rattle.orbits.proofs.Rows.{element_between}
use Rattle.orbits.proofs.Plane.{plane_long, plane_x_most, plane_y_most}

-- ---- a ∘ cos I is nearly a
tilted : (d : ℕ) (a i : ℤ) → Within 1000000000 a → nat_abs (i -ℤ pos 1000000000) ≤ d → nat_abs (unit_product a i -ℤ a) ≤ d + 1
tilted n a i h k =
    let u = unit_product a i in
    let d = i -ℤ pos 1000000000 in
    let r = u *ℤ pos 1000000000 -ℤ a *ℤ i in
    let e : u *ℤ pos 1000000000 ≡ a *ℤ pos 1000000000 +ℤ (a *ℤ d +ℤ r) =
    sym (minus_plus (u *ℤ pos 1000000000) (a *ℤ i))
    ∙ ap (λ (z : ℤ). z +ℤ r) (ap (λ (z : ℤ). a *ℤ z) (sym (minus_plus i (pos 1000000000))) ∙ *ℤ-distrib_l a (pos 1000000000) d)
    ∙ +ℤ_assoc (a *ℤ pos 1000000000) (a *ℤ d) r in
    let f = times_apart u a (pos 1000000000) (a *ℤ d +ℤ r) e in
    let g = abs_add_le (a *ℤ d) r (abs_mul_le a d h.within k) (floor_ends (a *ℤ i) 999999999).off in
    omega arith

product_small : {a b : ℤ} → Within 1000000000 a → Within 1000000000 b → Within 1000000000 (unit_product a b)
product_small p q = w_floor 999999999 1000000000 (w_mul p q) tt

-- one term of a sum, or of a difference, exchanged for one that is n off
by_plus : (n : ℕ) (a b c : ℤ) → nat_abs (b -ℤ c) ≤ n → nat_abs ((a +ℤ b) -ℤ (a +ℤ c)) ≤ n
by_plus n a b c h = abs_d ((a +ℤ b) -ℤ (a +ℤ c)) n (omega (arith, d_add a b, d_add a c, d_minus (a +ℤ b) (a +ℤ c), d_minus b c, d_abs (b -ℤ c)))

by_minus : (n : ℕ) (a b c : ℤ) → nat_abs (b -ℤ c) ≤ n → nat_abs ((a -ℤ b) -ℤ (a -ℤ c)) ≤ n
by_minus n a b c h = abs_d ((a -ℤ b) -ℤ (a -ℤ c)) n (omega (arith, d_minus a b, d_minus a c, d_minus (a -ℤ b) (a -ℤ c), d_minus b c, d_abs (b -ℤ c)))

-- ---- the cosine and sine of ω + Ω by the rule for sums, rounded: their squares add up to nearly 10^18 too
module _ (sω cω sΩ cΩ : ℤ) where
  abbrev sum_cosine : ℤ
  sum_cosine = unit_product cω cΩ -ℤ unit_product sω sΩ

  abbrev sum_sine : ℤ
  sum_sine = unit_product cω sΩ +ℤ unit_product sω cΩ

  sum_unit : NearCircle (nat_abs sω) (nat_abs cω) → NearCircle (nat_abs sΩ) (nat_abs cΩ) → 999999228 * 999999228 ≤ nat_abs sum_cosine * nat_abs sum_cosine + nat_abs sum_sine * nat_abs sum_sine
  sum_unit u w =
      let c = ends_add (unit_product cω cΩ) (neg_ℤ (unit_product sω sΩ)) (cω *ℤ cΩ) (neg_ℤ (sω *ℤ sΩ)) (floor_ends (cω *ℤ cΩ) 999999999) (ends_neg (unit_product sω sΩ) (sω *ℤ sΩ) (floor_ends (sω *ℤ sΩ) 999999999)) in
      let s = ends_add (unit_product cω sΩ) (unit_product sω cΩ) (cω *ℤ sΩ) (sω *ℤ cΩ) (floor_ends (cω *ℤ sΩ) 999999999) (floor_ends (sω *ℤ cΩ) 999999999) in
      let p = cω *ℤ cΩ +ℤ neg_ℤ (sω *ℤ sΩ) in
      let q = cω *ℤ sΩ +ℤ sω *ℤ cΩ in
      let e = rw (neg_mul sω sΩ) at (turn_squares sω cω cΩ sΩ) in
      let f : sω *ℤ cΩ +ℤ cω *ℤ sΩ ≡ cω *ℤ sΩ +ℤ sω *ℤ cΩ = simp ring in
      let g = rw f at e in
      let h = mul-le-mul u.low w.low in
      scaled (nat_abs sum_cosine) (nat_abs sum_sine) (nat_abs p) (nat_abs q) (omega arith) (ends_least sum_cosine p c) (ends_least sum_sine q s)
    where
      scaled : (c s p q : ℕ) → 999999233000000000 * 999999233000000000 ≤ p * p + q * q → p ≤ c * 1000000000 + 2000000000 → q ≤ s * 1000000000 + 2000000000 → 999999228 * 999999228 ≤ c * c + s * s
      scaled c s p q h hp hq =
          let n = near_long (c * 1000000000) (s * 1000000000) p q 2000000000 2000000000 999999228000000000 999999233000000000 h hp hq (omega arith) in
          omega arith

  -- the coefficients for -sine of qx and for the cosine of qy, as step 5 puts their terms
  minus_sine : neg_ℤ (unit_product sω cΩ) -ℤ unit_product cω sΩ ≡ neg_ℤ sum_sine
  minus_sine =
      let a = unit_product sω cΩ in
      let b = unit_product cω sΩ in
      omega (zarith, up_neg a, dn_neg a, d_minus (neg_ℤ a) b, d_add b a, up_neg (b +ℤ a), dn_neg (b +ℤ a))

  cosine_turned : neg_ℤ (unit_product sω sΩ) +ℤ unit_product cω cΩ ≡ sum_cosine
  cosine_turned =
      let a = unit_product sω sΩ in
      let b = unit_product cω cΩ in
      omega (zarith, up_neg a, dn_neg a, d_add (neg_ℤ a) b, d_minus b a)

-- ---- a sum of products by coefficients u and w that are nearly s and c
off_turn : (s c u w x y : ℤ) (d k : ℕ) → nat_abs (u -ℤ s) ≤ d → nat_abs (w -ℤ c) ≤ d → Within k x → Within k y → nat_abs (s *ℤ x +ℤ c *ℤ y) ≤ nat_abs (u *ℤ x +ℤ w *ℤ y) + (d * k + d * k)
off_turn s c u w x y d k hu hw hx hy =
    let p = s *ℤ x +ℤ c *ℤ y in
    let q = u *ℤ x +ℤ w *ℤ y in
    let e = (u -ℤ s) *ℤ x +ℤ (w -ℤ c) *ℤ y in
    let f : (s *ℤ x +ℤ c *ℤ y) +ℤ ((u -ℤ s) *ℤ x +ℤ (w -ℤ c) *ℤ y) ≡ u *ℤ x +ℤ w *ℤ y = sorted (u -ℤ s) (w -ℤ c) ∙ (λ i. minus_plus u s i *ℤ x +ℤ minus_plus w c i *ℤ y) in
    let g : (u *ℤ x +ℤ w *ℤ y) -ℤ (s *ℤ x +ℤ c *ℤ y) ≡ (u -ℤ s) *ℤ x +ℤ (w -ℤ c) *ℤ y = taken p e q f in
    let h = abs_add_le ((u -ℤ s) *ℤ x) ((w -ℤ c) *ℤ y) (abs_mul_le (u -ℤ s) x hu hx.within) (abs_mul_le (w -ℤ c) y hw hy.within) in
    omega (arith, abs_more q p, ap nat_abs g)
  where
    sorted : (k l : ℤ) → (s *ℤ x +ℤ c *ℤ y) +ℤ (k *ℤ x +ℤ l *ℤ y) ≡ (s +ℤ k) *ℤ x +ℤ (c +ℤ l) *ℤ y
    sorted k l = simp ring

    taken : (p e q : ℤ) → p +ℤ e ≡ q → q -ℤ p ≡ e
    taken p e q f = omega (zarith, d_add p e, d_minus q p)

-- the coordinate that it ends in
coordinate_near : (s c u w x y : ℤ) (d k : ℕ) → nat_abs (u -ℤ s) ≤ d → nat_abs (w -ℤ c) ≤ d → Within k x → Within k y → nat_abs (s *ℤ x +ℤ c *ℤ y) ≤ nat_abs (end_turn (u *ℤ x +ℤ w *ℤ y)) * 1000000000 + (end_rest + d * (k + k))
coordinate_near s c u w x y d k hu hw hx hy =
    let q = u *ℤ x +ℤ w *ℤ y in
    omega (arith, ends_least (end_turn q) q (end_turn_ends q), off_turn s c u w x y d k hu hw hx hy)

-- ---- a place 9,300,000 or more from the Sun in x and y, and at most 250,000 off the ecliptic
pub record Clear (v : List ℤ) : Type 0 where
  pub away : 9300000 * 9300000 ≤ nat_abs (at v 0) * nat_abs (at v 0) + nat_abs (at v 1) * nat_abs (at v 1)
  pub low : Within 250000 (at v 2)

-- a turn by c and s of a point 9,800,000 or more away, with coordinates that are r off, ends 9,300,000 or more away
turned_away : (s c x y p q a b r : ℕ) → 999999228 * 999999228 ≤ c * c + s * s → 9800000 * 9800000 ≤ x * x + y * y → (c * c + s * s) * (x * x + y * y) ≡ q * q + p * p → p ≤ a * 1000000000 + r → q ≤ b * 1000000000 + r → r ≤ 246045400000000 → 9300000 * 9300000 ≤ a * a + b * b
turned_away s c x y p q a b r hu hf e hp hq t =
    let l = mul-le-mul hu hf in
    let m = near_long (a * 1000000000) (b * 1000000000) p q r r 9300000000000000 9799992434400000 (omega arith) hp hq (omega arith) in
    omega arith

-- ---- step 5 for any ω and Ω and a small inclination, of a point of the plane that is far from the Sun
module _ (ω Ω I x y : ℤ) (h : Within 670000 I) (hx : Within 10200000 x) (hy : Within 10200000 y) where
  abbrev tilt : ℤ → ℤ
  tilt a = unit_product a (cosine_of I)

  little : {a : ℤ} → Within 1000000000 a → Within 12060000 (unit_product a (sine_of I))
  little w = w_floor 999999999 12060000 (w_mul w (sine_little I h)) tt

  near : (a : ℤ) → Within 1000000000 a → nat_abs (unit_product a (cosine_of I) -ℤ a) ≤ 12060001
  near a w = tilted 12060000 a (cosine_of I) w (cosine_near I h)

  clear_by : 9800000 * 9800000 ≤ nat_abs x * nat_abs x + nat_abs y * nat_abs y → Clear (ecliptic_of (coefficients_of ω Ω I) x y)
  unfolding coefficients_of
  clear_by far =
      let sω = sine_of ω in
      let cω = cosine_of ω in
      let sΩ = sine_of Ω in
      let cΩ = cosine_of Ω in
      let c = sum_cosine sω cω sΩ cΩ in
      let s = sum_sine sω cω sΩ cΩ in
      let cc = unit_product cω cΩ in
      let ss = unit_product sω sΩ in
      let sc = unit_product sω cΩ in
      let cs = unit_product cω sΩ in
      let px = by_minus 12060001 cc (tilt ss) ss (near ss (product_small (sine_small ω) (sine_small Ω))) in
      let qx = by_minus 12060001 (neg_ℤ sc) (tilt cs) cs (near cs (product_small (cosine_small ω) (sine_small Ω))) in
      let py = by_plus 12060001 cs (tilt sc) sc (near sc (product_small (sine_small ω) (cosine_small Ω))) in
      let qy = by_plus 12060001 (neg_ℤ ss) (tilt cc) cc (near cc (product_small (cosine_small ω) (cosine_small Ω))) in
      let v = ecliptic_of (coefficients_of ω Ω I) x y in
      record {
        away =
            turned_away (nat_abs s) (nat_abs c) (nat_abs x) (nat_abs y) (nat_abs (c *ℤ x +ℤ neg_ℤ s *ℤ y)) (nat_abs (s *ℤ x +ℤ c *ℤ y)) (nat_abs (at v 0)) (nat_abs (at v 1)) (end_rest + 12060001 * (10200000 + 10200000))
            (sum_unit sω cω sΩ cΩ (squares ω) (squares Ω)) far (turn_squares s c x y)
            (coordinate_near c (neg_ℤ s) (cc -ℤ tilt ss) (neg_ℤ sc -ℤ tilt cs) x y 12060001 10200000 px (rw (minus_sine sω cω sΩ cΩ) at qx) hx hy)
            (coordinate_near s c (cs +ℤ tilt sc) (neg_ℤ ss +ℤ tilt cc) x y 12060001 10200000 py (rw (cosine_turned sω cω sΩ cΩ) at qy) hx hy)
            (omega arith);
        low = end_turn_within 250000 (w_add (w_mul (little (sine_small ω)) hx) (w_mul (little (cosine_small ω)) hy)) (omega arith);
      }

-- ---- elements like the Earth's
pub record EarthLike (el : Elements) : Type 0 where
  pub axis : FromTo (pos 99990000) (pos 100010000) (hundred_millionths el.a)
  pub short : FromTo (pos 0) (pos 1900000) (hundred_millionths el.e)
  pub inclination : FromTo (negsuc 66999999) (pos 67000000) (hundred_millionths el.inclination)

pub elements_clear : (el : Elements) (M : ℤ) → EarthLike el → Clear (place_of el M)
unfolding place_of
elements_clear el M f =
    let a = hundred_millionths el.a in
    let e = hundred_millionths el.e in
    let E = eccentric e M in
    let i = range_within (negsuc 66999999) (pos 67000000) (hundred_millionths el.inclination) 67000000 f.inclination (omega arith) (omega arith) in
    clear_by (argument_of el) (node_of el) (inclination_of el) (plane_x a e E) (plane_y a e E) (w_floor 99 670000 i tt)
    (plane_x_most a e E f.axis f.short) (plane_y_most a e E f.axis f.short) (plane_long a e E f.axis f.short)

-- ---- the Earth by a table: its elements are in range at both ends of the interval
module _ (span : Interval) (row : List ℤ) (m : ℤ) (h : Covers span m) where
  stays : (k : ℕ) (lo hi : ℤ) → T (is_from_to lo hi (element_in row k span.first)) → T (is_from_to lo hi (element_in row k span.last)) → FromTo lo hi (element_in row k m)
  stays k lo hi a b = element_between row k span m lo hi h (of_test lo hi (element_in row k span.first) a) (of_test lo hi (element_in row k span.last) b)

earth_like : (table m : ℤ) → Covers (interval_of table) m → EarthLike (elements_at (table_row table (pos 3)) m)
unfolding interval_of table_row table1 table2 drift_of
earth_like table m h = go (same table (pos 1)) h
  where
    go : (first : Bool) → Covers (interval_if first) m → EarthLike (elements_at (get_or (rows_if first) 2 []) m)
    go true h =
        let row = get_or table1 2 [] in
        record {
          axis = stays interval1 row m h 0 (pos 99990000) (pos 100010000) tt tt;
          short = stays interval1 row m h 1 (pos 0) (pos 1900000) tt tt;
          inclination = stays interval1 row m h 2 (negsuc 66999999) (pos 67000000) tt tt;
        }
    go false h =
        let row = get_or table2 2 [] in
        record {
          axis = stays interval2 row m h 0 (pos 99990000) (pos 100010000) tt tt;
          short = stays interval2 row m h 1 (pos 0) (pos 1900000) tt tt;
          inclination = stays interval2 row m h 2 (negsuc 66999999) (pos 67000000) tt tt;
        }

pub earth_clear : (table m : ℤ) → Covers (interval_of table) m → Clear (place_at (table_row table (pos 3)) (table_terms table (pos 3)) m)
earth_clear table m h =
    elements_clear (elements_at (table_row table (pos 3)) m) (mean_at (table_row table (pos 3)) (table_terms table (pos 3)) m) (earth_like table m h)
