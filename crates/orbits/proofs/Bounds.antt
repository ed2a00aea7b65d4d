-- Bounds for any elements in range: x' is at most 50 au, y' at most 45 au, a coefficient at most 10^9 + 10, a coordinate at most 10^9.
-- A coefficient is a sum of two products of sines and cosines; |a b| + |c d| is at most half of a² + c² + b² + d², and the squares of
-- a sine and its cosine add up to nearly 10^18.
use mathlib.Core.Path.{◌≡◌, ap, sym, ◌∙◌}
use Prim.Native.Nat.{ℕ, ◌+◌, ◌-◌, ◌*◌, ◌/◌, ◌≤◌}
use native.Mathlib.Nat as NatL
use native.Mathlib.Omega.{arith}
use lib.IntN.{ℤ, pos, neg_ℤ, nat_abs, ◌+ℤ◌, ◌-ℤ◌, ◌*ℤ◌}
use Rattle.integers.specs.Range.{Within}
use Rattle.integers.specs.Floor.{unit_product, end_turn}
use Rattle.integers.specs.Root.{root_of, IsRoot}
use Rattle.integers.proofs.Difference.{zarith, d_minus}
use Rattle.integers.proofs.Ring.{abs_mul}
use Rattle.integers.specs.Triple.{PartsWithin}
use Rattle.integers.proofs.Roots.{root_is, root_most}
use Rattle.integers.proofs.Squares.{square_mono, mean}
use Rattle.integers.proofs.Ends.{end_turn_within}
use Rattle.integers.proofs.Ranges.{range_size, range_most}
use Rattle.integers.proofs.Triples.{three}
use Rattle.integers.proofs.Number.{w_mul, w_add, w_sub, w_neg, w_floor, w_lit, w_floor<}
use Rattle.angles.specs.Sine.{sine_of, cosine_of}
use Rattle.angles.proofs.Laws.{sine_small, cosine_small}
use Rattle.angles.proofs.Squares.{NearCircle, squares}
use Rattle.angles.specs.Unit.{hundred_millionths}
use Rattle.kepler.specs.Equation.{Elliptic}
use Rattle.kepler.specs.Eccentric.{eccentric}
use Rattle.orbits.specs.Elements.{argument_of, inclination_of, node_of}
use Rattle.orbits.specs.Place.{minor_of, plane_x, plane_y, coefficients_of, ecliptic_of, place_of}
use Rattle.orbits.specs.Range.{AxisFits, ElementsFit, Bounded}
use Rattle.orbits.specs.declared.Elements.{Elements}
use Rattle.orbits.specs.declared.Coefficients.{Coefficients}

-- ---- the minor axis
pub e_squared : (e : ℕ) → e ≤ 90000000 → e * e ≤ 8100000000000000
e_squared e h = square_mono e 90000000 h

pub minor_is : (e : ℕ) → e ≤ 90000000 → minor_of (pos e) ≡ pos (root_of (1000000000000000000 - 100 * e * e))
unfolding minor_of
minor_is e h =
    let q = e_squared e h in
    let p : 10 * e * (10 * e) ≡ 100 * e * e = omega arith in
    let d : pos 1000000000000000000 -ℤ pos (10 * e * (10 * e)) ≡ pos (1000000000000000000 - 100 * e * e) = omega (zarith, d_minus (pos 1000000000000000000) (pos (10 * e * (10 * e)))) in
    ap (λ (z : ℤ). pos (root_of (nat_abs z))) d

-- step 4's own words: "the greatest whole number with f² ≤ 10^18 - (10e)²"
pub minor_is_root : (e : ℤ) → Elliptic e → IsRoot (1000000000000000000 - 10 * nat_abs e * (10 * nat_abs e)) (nat_abs (minor_of e))
minor_is_root e h =
    let n = nat_abs e in
    let x : ℕ = 1000000000000000000 - 100 * nat_abs e * nat_abs e in
    let f : nat_abs (minor_of e) ≡ root_of (1000000000000000000 - 100 * nat_abs e * nat_abs e) = ap (λ (z : ℤ). nat_abs (minor_of z)) (sym (range_size 0 e h)) ∙ ap nat_abs (minor_is (nat_abs e) (range_most 0 e h)) in
    let g : 10 * nat_abs e * (10 * nat_abs e) ≡ 100 * nat_abs e * nat_abs e = omega arith in
    rw (f, g) (root_is (1000000000000000000 - 100 * nat_abs e * nat_abs e) (omega arith))

pub minor_small : (e : ℤ) → Elliptic e → Within 1000000000 (minor_of e)
minor_small e h =
    let n = nat_abs e in
    record { within = root_most (1000000000000000000 - 10 * nat_abs e * (10 * nat_abs e)) (nat_abs (minor_of e)) 1000000000 (minor_is_root e h).square (omega arith) }

-- ---- the place in the plane
pub plane_x_small : (a e E : ℤ) → AxisFits a e → Within 500000000 (plane_x a e E)
unfolding plane_x
plane_x_small a e E f =
    let ten : Within (10 * nat_abs e) (pos 10 *ℤ e) = w_mul (w_lit (pos 10)) (w_lit e) in
    w_floor< 10000000000 500000000 (omega arith) (w_mul (w_lit a) (w_sub (cosine_small E) ten)) (omega (arith, f.aphelion))

pub plane_y_small : (a e E : ℤ) → AxisFits a e → Within 450000000 (plane_y a e E)
unfolding plane_y
plane_y_small a e E f =
    let axis : Within 4500000000 a = record { within = f.axis } in
    w_floor 999999999 450000000 (w_mul (w_floor 9999999999 450000000 (w_mul axis (minor_small e f.elliptic)) tt) (sine_small E)) tt

-- ---- the coefficients
-- a ∘ b is at most |a b| / 10^9 + 1
rounded : (a b : ℤ) (n : ℕ) → nat_abs a * nat_abs b ≤ n → Within (n / 1000000000 + 1) (unit_product a b)
rounded a b n h =
    let p : Within n (a *ℤ b) = record { within = rw (abs_mul a b) h } in
    w_floor< 1000000000 (n / 1000000000 + 1) (omega arith) p (omega arith)

-- a ∘ b ± (c ∘ d) ∘ i, where a, d and b, c are the sine and cosine of two angles
module _ (a b c d i : ℤ) (one : NearCircle (nat_abs a) (nat_abs c)) (two : NearCircle (nat_abs b) (nat_abs d)) (s : Within 1000000000 i) where
  -- the two products together
  sum : nat_abs a * nat_abs b + nat_abs c * nat_abs d ≤ 1000000001300000000
  sum =
      let x = mean (nat_abs a) (nat_abs b) in
      let y = mean (nat_abs c) (nat_abs d) in
      omega (arith, one.high, two.high)

  first : Within (nat_abs a * nat_abs b / 1000000000 + 1) (unit_product a b)
  first = rounded a b (nat_abs a * nat_abs b) (NatL.le_refl (nat_abs a * nat_abs b))

  inner : Within (nat_abs c * nat_abs d / 1000000000 + 1) (unit_product c d)
  inner = rounded c d (nat_abs c * nat_abs d) (NatL.le_refl (nat_abs c * nat_abs d))

  second : Within (nat_abs c * nat_abs d / 1000000000 + 1) (unit_product (unit_product c d) i)
  second = w_floor< 1000000000 (nat_abs c * nat_abs d / 1000000000 + 1) (omega arith) (w_mul inner s) (NatL.le_refl ((nat_abs c * nat_abs d / 1000000000 + 1) * 1000000000))

  both : nat_abs a * nat_abs b / 1000000000 + 1 + (nat_abs c * nat_abs d / 1000000000 + 1) ≤ 1000000010
  both = let h = sum in omega arith

  minus : Within 1000000010 (unit_product a b -ℤ unit_product (unit_product c d) i)
  minus = record { within = NatL.le_trans (w_sub first second).within both }

  plus : Within 1000000010 (unit_product a b +ℤ unit_product (unit_product c d) i)
  plus = record { within = NatL.le_trans (w_add first second).within both }

  neg_minus : Within 1000000010 (neg_ℤ (unit_product a b) -ℤ unit_product (unit_product c d) i)
  neg_minus = record { within = NatL.le_trans (w_sub (w_neg first) second).within both }

  neg_plus : Within 1000000010 (neg_ℤ (unit_product a b) +ℤ unit_product (unit_product c d) i)
  neg_plus = record { within = NatL.le_trans (w_add (w_neg first) second).within both }

flipped : {s c : ℕ} → NearCircle s c → NearCircle c s
flipped u = record { low = omega (arith, u.low); high = omega (arith, u.high) }

product_small : {a b : ℤ} → Within 1000000000 a → Within 1000000000 b → Within 1000000010 (unit_product a b)
product_small p q = w_floor 999999999 1000000010 (w_mul p q) tt

pub bounded : (ω Ω I : ℤ) → Bounded (coefficients_of ω Ω I)
unfolding coefficients_of
bounded ω Ω I =
    let w = squares ω in
    let n = squares Ω in
    let i = cosine_small I in
    let sω = sine_of ω in
    let cω = cosine_of ω in
    let sΩ = sine_of Ω in
    let cΩ = cosine_of Ω in
    record {
      px = minus cω cΩ sω sΩ (cosine_of I) (flipped w) (flipped n) i;
      qx = neg_minus sω cΩ cω sΩ (cosine_of I) w (flipped n) i;
      py = plus cω sΩ sω cΩ (cosine_of I) (flipped w) n i;
      qy = neg_plus sω sΩ cω cΩ (cosine_of I) w n i;
      pz = product_small (sine_small ω) (sine_small I);
      qz = product_small (cosine_small ω) (sine_small I);
    }

-- ---- the coordinates
coordinate_small : {p q x y : ℤ} → Within 1000000010 p → Within 1000000010 q → Within 500000000 x → Within 450000000 y → Within 1000000000 (end_turn (p *ℤ x +ℤ q *ℤ y))
coordinate_small a b c d = end_turn_within 1000000000 (w_add (w_mul a c) (w_mul b d)) (omega arith)

ecliptic_within : (k : Coefficients) (x y : ℤ) → Bounded k → Within 500000000 x → Within 450000000 y → PartsWithin 1000000000 (ecliptic_of k x y)
ecliptic_within k x y b h l = three (coordinate_small b.px b.qx h l) (coordinate_small b.py b.qy h l) (coordinate_small b.pz b.qz h l)

-- every coordinate is at most 10^9, that is 100 au
pub place_within : (el : Elements) (M : ℤ) → ElementsFit el → PartsWithin 1000000000 (place_of el M)
unfolding place_of
place_within el M f =
    let a = hundred_millionths el.a in
    let e = hundred_millionths el.e in
    let E = eccentric e M in
    let ω = argument_of el in
    let Ω = node_of el in
    let I = inclination_of el in
    ecliptic_within (coefficients_of ω Ω I) (plane_x a e E) (plane_y a e E) (bounded ω Ω I) (plane_x_small a e E f.axis) (plane_y_small a e E f.axis)
