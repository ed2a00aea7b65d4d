-- Lengths: the sum of squares fits, no part is larger than the length, so a unit vector's parts are at most 10^9; a cross product's bounds.
-- L is the greatest number whose square is not above the sum, and no part's square is above the sum.
use mathlib.Core.List.{List}
use Prim.Native.Nat.{ℕ, zero, suc, ◌*◌, ◌^◌, ◌≤◌, ◌<◌, zero-le}
use native.Mathlib.Nat.{mul-le-mul, zero-lt-suc}
use native.Mathlib.Omega.{arith}
use lib.IntN.{ℤ, pos, nat_abs, ◌*ℤ◌}
use Rattle.integers.specs.Range.{Within}
use Rattle.integers.specs.Floor.{floor_div}
use Rattle.integers.specs.Root.{IsRoot}
use Rattle.integers.proofs.Number.{w_lit, w_mul, w_sub, w_floor<, w_floor}
use Rattle.integers.proofs.Roots.{root_is, root_small}
use Rattle.vectors.specs.Vector.{square_of, squares_of, length_of, over_length, unit_of, cross_part, cross_of}
use Rattle.integers.specs.Triple.{at, PartsWithin}
use Rattle.integers.proofs.Triples.{three}

-- ---- squares
pub square_small : {n : ℕ} (z : ℤ) → Within n z → square_of z ≤ n * n
square_small z w = mul-le-mul w.within w.within

pub squares_small : {n : ℕ} (v : List ℤ) → PartsWithin n v → squares_of v ≤ 3 * (n * n)
squares_small v p =
    let x = square_small (at v 0) (p.part 0) in
    let y = square_small (at v 1) (p.part 1) in
    let z = square_small (at v 2) (p.part 2) in
    omega arith

-- ---- a vector of which the sum of squares fits 64 bits
module _ (v : List ℤ) (h : squares_of v < 2 ^ 64) where
  pub length_is : IsRoot (squares_of v) (length_of v)
  unfolding length_of
  length_is = root_is (squares_of v) h

  pub length_small : length_of v ≤ 4294967295
  length_small = root_small (squares_of v) (length_of v) length_is.square h

  -- the parts that a vector of three has
  pub part_below_length : (i : ℕ) → i ≤ 2 → nat_abs (at v i) ≤ length_of v
  part_below_length zero k = length_is.greatest (nat_abs (at v 0)) (omega arith)
  part_below_length (suc zero) k = length_is.greatest (nat_abs (at v 1)) (omega arith)
  part_below_length (suc (suc zero)) k = length_is.greatest (nat_abs (at v 2)) (omega arith)
  part_below_length (suc (suc (suc i))) k = absurd (omega arith)

-- ---- the unit vector
over_small : (l : ℕ) (v : List ℤ) → ((i : ℕ) → i ≤ 2 → nat_abs (at v i) ≤ l) → PartsWithin 1000000000 (over_length l v)
over_small zero v h = three none none none
  where
    none : Within 1000000000 (pos 0)
    none = record { within = zero-le }
over_small (suc l) v h = three (part 0 (omega arith)) (part 1 (omega arith)) (part 2 (omega arith))
  where
    part : (i : ℕ) → i ≤ 2 → Within 1000000000 (floor_div (at v i *ℤ pos 1000000000) (suc l))
    part i k =
        w_floor< (suc l) 1000000000 (zero-lt-suc l) (w_mul {a = at v i} (record { within = h i k }) (w_lit (pos 1000000000))) (omega arith)

pub unit_small : (v : List ℤ) → squares_of v < 2 ^ 64 → PartsWithin 1000000000 (unit_of v)
unfolding unit_of
unit_small v h = over_small (length_of v) v (part_below_length v h)

-- a vector whose parts are at most 2·10^9
pub squares_fit : (v : List ℤ) → PartsWithin 2000000000 v → squares_of v < 2 ^ 64
squares_fit v p = omega (arith, squares_small v p)

-- ---- the cross product
module _ (a b : List ℤ) where
  -- of two vectors whose parts are at most 10^9
  pub cross_within : PartsWithin 1000000000 a → PartsWithin 1000000000 b → PartsWithin 2000000000 (cross_of a b)
  unfolding cross_of
  cross_within p q = three (part 1 2) (part 2 0) (part 0 1)
    where
      part : (i j : ℕ) → Within 2000000000 (cross_part a b i j)
      part i j = w_floor 999999999 2000000000 (w_sub (w_mul (p.part i) (q.part j)) (w_mul (p.part j) (q.part i))) tt
