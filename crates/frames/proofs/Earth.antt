-- Where the Earth is, 9,300,000 or more from the Sun in x and y and 250,000 or less off the ecliptic, HEE and HEEQ divide by no length of 0.
-- The squares of x and y make up nearly all of L², so one of the two is at least 7/10 of L; and S is nearly the z axis.
use mathlib.Core.Path.{subst, sym}
use mathlib.Core.Logic.{◌⊎◌, inl, inr}
use mathlib.Core.List.{List}
use Prim.Native.Nat.{ℕ, zero, suc, ◌+◌, ◌*◌, ◌^◌, ◌≤◌, ◌<◌}
use native.Mathlib.Nat.{mul-le-mul, le_of_lt, le_trans, zero-lt-suc}
use native.Mathlib.Decide.{dec_lt}
use native.Mathlib.Omega.{arith}
use lib.IntN.{ℤ, pos, negsuc, nat_abs, ◌-ℤ◌, ◌*ℤ◌}
use Rattle.integers.specs.Range.{Within}
use Rattle.integers.specs.Floor.{floor_div}
use Rattle.integers.proofs.Ring.{abs_mul}
use Rattle.integers.proofs.Number.{w_lit, w_mul, w_floor<}
use Rattle.integers.specs.Triple.{at, PartsWithin}
use Rattle.integers.proofs.Floor.{floor_least}
use Rattle.integers.proofs.Ends.{abs_less, abs_more}
use Rattle.integers.proofs.Triples.{parts_more}
use Rattle.vectors.specs.Vector.{squares_of, length_of, over_length, unit_of, cross_part, cross_of}
use Rattle.frames.specs.Range.{NearEcliptic}
use Rattle.frames.specs.Frame.{on_ecliptic, axis_cross}
use Rattle.vectors.proofs.Lengths.{squares_fit, length_is, part_below_length}
use Rattle.frames.proofs.Rows.{axis_numbers, axis_is, ecliptic_small, across_small}

-- ---- one of x and y is at least 7/10 of the length
larger : (x y z l : ℕ) → l * l ≤ x * x + y * y + z * z → 9300000 ≤ l → z ≤ 250000 → (7 * l ≤ 10 * x) ⊎ (7 * l ≤ 10 * y)
larger x y z l h long low = go (dec_lt (10 * x) (7 * l)) (dec_lt (10 * y) (7 * l))
  where
    go : Dec (10 * x < 7 * l) → Dec (10 * y < 7 * l) → (7 * l ≤ 10 * x) ⊎ (7 * l ≤ 10 * y)
    go (no a) b = inl (omega arith)
    go (yes a) (no b) = inr (omega arith)
    go (yes a) (yes b) =
        let xx = mul-le-mul (le_of_lt a) (le_of_lt a) in
        let yy = mul-le-mul (le_of_lt b) (le_of_lt b) in
        let zz = mul-le-mul low low in
        let ll = mul-le-mul long long in
        absurd (omega arith)

-- ---- the unit vector's parts
part_large : (z : ℤ) (l : ℕ) → 7 * suc l ≤ 10 * nat_abs z → 700000000 ≤ nat_abs (floor_div (z *ℤ pos 1000000000) (suc l))
part_large z l h = floor_least (z *ℤ pos 1000000000) l 700000000 (omega (arith, abs_mul z (pos 1000000000)))

part_little : (z : ℤ) (l : ℕ) → 9300000 ≤ suc l → Within 250000 z → Within 26881722 (floor_div (z *ℤ pos 1000000000) (suc l))
part_little z l h w = w_floor< (suc l) 26881722 (zero-lt-suc l) (w_mul w (w_lit (pos 1000000000))) (omega arith)

-- ---- S×U, for U low and long in x or y
module _ (U : List ℤ) (low : Within 26881722 (at U 2)) where
  by_x : 700000000 ≤ nat_abs (at U 0) → 690000000 ≤ nat_abs (cross_part axis_numbers U 2 0)
  by_x h =
      let p = pos 992004572 *ℤ at U 0 in
      let q = pos 122321270 *ℤ at U 2 in
      floor_least (p -ℤ q) 999999999 690000000
      (omega (arith, abs_less p q, abs_mul (pos 992004572) (at U 0), abs_mul (pos 122321270) (at U 2), low.within))

  by_y : 700000000 ≤ nat_abs (at U 1) → 690000000 ≤ nat_abs (cross_part axis_numbers U 1 2)
  by_y h =
      let p = negsuc 31042918 *ℤ at U 2 in
      let q = pos 992004572 *ℤ at U 1 in
      floor_least (p -ℤ q) 999999999 690000000
      (omega (arith, abs_more p q, abs_mul (negsuc 31042918) (at U 2), abs_mul (pos 992004572) (at U 1), low.within))

  across_by : (700000000 ≤ nat_abs (at U 0)) ⊎ (700000000 ≤ nat_abs (at U 1)) → squares_of (cross_of axis_numbers U) < 2 ^ 64 → 690000000 ≤ length_of (cross_of axis_numbers U)
  unfolding cross_of
  across_by (inl h) s = le_trans (by_x h) (part_below_length (cross_of axis_numbers U) s 1 (omega arith))
  across_by (inr h) s = le_trans (by_y h) (part_below_length (cross_of axis_numbers U) s 0 (omega arith))

-- U by its length
over_low : (l : ℕ) (v : List ℤ) → 9300000 ≤ l → Within 250000 (at v 2) → Within 26881722 (at (over_length l v) 2)
over_low zero v h w = absurd (omega arith)
over_low (suc l) v h w = part_little (at v 2) l h w

over_large : (l : ℕ) (v : List ℤ) → 9300000 ≤ l → (7 * l ≤ 10 * nat_abs (at v 0)) ⊎ (7 * l ≤ 10 * nat_abs (at v 1)) → (700000000 ≤ nat_abs (at (over_length l v) 0)) ⊎ (700000000 ≤ nat_abs (at (over_length l v) 1))
over_large zero v h k = absurd (omega arith)
over_large (suc l) v h (inl k) = inl (part_large (at v 0) l k)
over_large (suc l) v h (inr k) = inr (part_large (at v 1) l k)

-- ---- the lengths: the Earth's, and the two that HEE and HEEQ divide by
module _ (earth : List ℤ) (p : PartsWithin 1000000000 earth) (e : NearEcliptic earth) where
  fits : squares_of earth < 2 ^ 64
  fits = squares_fit earth (parts_more p tt)

  pub earth_long : 9300000 ≤ length_of earth
  earth_long = (length_is earth fits).greatest 9300000 (omega (arith, e.away))

  pub ecliptic_long : 9300000 ≤ length_of (on_ecliptic earth)
  ecliptic_long =
      let f = on_ecliptic earth in
      (length_is f (squares_fit f (parts_more (ecliptic_small earth p) tt))).greatest 9300000 (omega (arith, e.away))

  pub across_long : 690000000 ≤ length_of (axis_cross earth)
  unfolding unit_of
  across_long =
      let U = unit_of earth in
      let low = over_low (length_of earth) earth earth_long e.low in
      let one = larger (nat_abs (at earth 0)) (nat_abs (at earth 1)) (nat_abs (at earth 2)) (length_of earth) (length_is earth fits).square earth_long e.low.within in
      let large = over_large (length_of earth) earth earth_long one in
      let short = squares_fit (axis_cross earth) (across_small earth p) in
      subst (λ (a : List ℤ). 690000000 ≤ length_of (cross_of a U)) (sym axis_is)
      (across_by U low large (subst (λ (a : List ℤ). squares_of (cross_of a U) < 2 ^ 64) axis_is short))
