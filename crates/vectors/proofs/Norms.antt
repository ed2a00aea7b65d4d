-- How much longer a turn makes a vector, there or back: by as much as its rows are longer than one and off right angles.
-- |mᵀw|² = w·m(mᵀw), which Cauchy bounds; so a bound one way is one the other way too, and only one is ever shown.
use mathlib.Core.Path.{◌≡◌, sym, subst, ◌∙◌}
use mathlib.Core.Bool.{Bool, true, false}
use mathlib.Core.List.{List, [], ◌∷◌}
use Prim.Native.Nat.{ℕ, zero, suc, ◌+◌, ◌*◌, ◌≤◌, zero-le}
use native.Mathlib.Nat.{mul-le-mul, mul-le-mul_left, le_trans, le_of_mul-le-mul_right, zero-lt-suc}
use native.Mathlib.Omega.{arith}
use lib.IntN.{ℤ, pos, nat_abs, ◌+ℤ◌, ◌*ℤ◌}
use Rattle.integers.specs.Range.{Within}
use Rattle.integers.proofs.Difference.{zarith, d_mul, d_add}
use Rattle.integers.proofs.Number.{w_add, w_mul, w_lit}
use Rattle.vectors.specs.Vector.{row_at, dot_of, column_of, transposed, way_of, square_of, squares_of}
use Rattle.integers.specs.Triple.{at}
use Rattle.integers.proofs.Squares.{mean}
use Rattle.vectors.proofs.Dots.{sums, adjoint, dot_comm, dot_self, sizes_of, dot_size, cauchy}

-- rows of which no sum of squares is above a, and no two have a sum of products beyond b
pub record NearlyUnit (a b : ℕ) (m : List (List ℤ)) : Type 0 where
  pub first : squares_of (row_at m 0) ≤ a
  pub second : squares_of (row_at m 1) ≤ a
  pub third : squares_of (row_at m 2) ≤ a
  pub first_second : Within b (dot_of (row_at m 0) (row_at m 1))
  pub first_third : Within b (dot_of (row_at m 0) (row_at m 2))
  pub second_third : Within b (dot_of (row_at m 1) (row_at m 2))

-- a turn by m, there or back, multiplies a sum of squares by c at most
pub record Stretches (c : ℕ) (m : List (List ℤ)) : Type 0 where
  pub there : (v : List ℤ) → squares_of (sums m v) ≤ c * squares_of v
  pub back : (v : List ℤ) → squares_of (sums (transposed m) v) ≤ c * squares_of v

-- ---- a stretch one way is one the other way: |mᵀw|² = w·m(mᵀw), which Cauchy bounds
cancelled : (s c q : ℕ) → s * s ≤ q * (c * s) → s ≤ c * q
cancelled zero c q h = zero-le
cancelled (suc s) c q h = le_of_mul-le-mul_right {k = suc s} (le_trans h (omega arith)) (zero-lt-suc s)

other_way : (c : ℕ) (m : List (List ℤ)) → ((v : List ℤ) → squares_of (sums m v) ≤ c * squares_of v) → (w : List ℤ) → squares_of (sums (transposed m) w) ≤ c * squares_of w
other_way c m f w =
    let t = sums (transposed m) w in
    let e : pos (squares_of t) ≡ dot_of w (sums m t) = sym (dot_self t) ∙ sym (adjoint m w t) in
    let h : squares_of t ≤ sizes_of w (sums m t) = rw (← e) at (dot_size w (sums m t)) in
    cancelled (squares_of t) c (squares_of w) (le_trans (mul-le-mul h h) (le_trans (cauchy w (sums m t)) (mul-le-mul_left (squares_of w) (f t))))

-- ---- by the rows
module _ (a b : ℕ) (m : List (List ℤ)) (u : NearlyUnit a b m) where
  -- a row's sum of products with m's columns turned back
  row_back : (w r : List ℤ) {x y z : ℕ} → Within x (dot_of (row_at m 0) r) → Within y (dot_of (row_at m 1) r) → Within z (dot_of (row_at m 2) r) → nat_abs (dot_of r (sums (transposed m) w)) ≤ nat_abs (at w 0) * x + nat_abs (at w 1) * y + nat_abs (at w 2) * z
  row_back w r p q s =
      let t = sums (transposed m) w in
      let e : dot_of r (sums (transposed m) w) ≡ dot_of w (sums m r) = dot_comm r t ∙ sym (adjoint m w r) in
      rw e (w_add (w_add (w_mul (w_lit (at w 0)) p) (w_mul (w_lit (at w 1)) q)) (w_mul (w_lit (at w 2)) s)).within

  self : (r : List ℤ) → squares_of r ≤ a → Within a (dot_of r r)
  self r h = record { within = rw (dot_self r) h }

  swap : (r s : List ℤ) → Within b (dot_of r s) → Within b (dot_of s r)
  swap r s w = subst (Within b) (dot_comm r s) w

  nearly_back : (w : List ℤ) → squares_of (sums (transposed m) w) ≤ (a + 2 * b) * squares_of w
  nearly_back w =
      let t = sums (transposed m) w in
      let e : pos (squares_of t) ≡ dot_of w (sums m t) = sym (dot_self t) ∙ sym (adjoint m w t) in
      let h : squares_of t ≤ sizes_of w (sums m t) = rw (← e) at (dot_size w (sums m t)) in
      let x = row_back w (row_at m 0) (self (row_at m 0) u.first) (swap (row_at m 0) (row_at m 1) u.first_second) (swap (row_at m 0) (row_at m 2) u.first_third) in
      let y = row_back w (row_at m 1) u.first_second (self (row_at m 1) u.second) (swap (row_at m 1) (row_at m 2) u.second_third) in
      let z = row_back w (row_at m 2) u.first_third u.second_third (self (row_at m 2) u.third) in
      add_up (nat_abs (at w 0)) (nat_abs (at w 1)) (nat_abs (at w 2)) (nat_abs (at (sums m t) 0)) (nat_abs (at (sums m t) 1)) (nat_abs (at (sums m t) 2)) (squares_of t) h x y z
    where
      add_up : (p q r x y z s : ℕ) → s ≤ p * x + q * y + r * z → x ≤ p * a + q * b + r * b → y ≤ p * b + q * a + r * b → z ≤ p * b + q * b + r * a → s ≤ (a + 2 * b) * (p * p + q * q + r * r)
      add_up p q r x y z s h hx hy hz =
          let i = mul-le-mul_left p hx in
          let j = mul-le-mul_left q hy in
          let k = mul-le-mul_left r hz in
          let l = mul-le-mul_left b (mean p q) in
          let n = mul-le-mul_left b (mean p r) in
          let o = mul-le-mul_left b (mean q r) in
          omega arith

  pub stretches : Stretches (a + 2 * b) m
  stretches = record { there = other_way (a + 2 * b) (transposed m) nearly_back; back = nearly_back }

-- ---- a column is what a turn makes of a unit vector, so no row and no column is longer than the stretch
abbrev axis : ℕ → List ℤ
axis zero = pos 1 ∷ pos 0 ∷ pos 0 ∷ []
axis (suc zero) = pos 0 ∷ pos 1 ∷ pos 0 ∷ []
axis (suc (suc i)) = pos 0 ∷ pos 0 ∷ pos 1 ∷ []

picked : (a : List ℤ) (k : ℕ) → k ≤ 2 → dot_of a (axis k) ≡ at a k
picked a zero h = go (at a 0) (at a 1) (at a 2)
  where
    go : (x y z : ℤ) → x *ℤ pos 1 +ℤ y *ℤ pos 0 +ℤ z *ℤ pos 0 ≡ x
    go x y z = omega (zarith, d_mul x (pos 1), d_mul y (pos 0), d_mul z (pos 0), d_add (x *ℤ pos 1) (y *ℤ pos 0), d_add (x *ℤ pos 1 +ℤ y *ℤ pos 0) (z *ℤ pos 0))
picked a (suc zero) h = go (at a 0) (at a 1) (at a 2)
  where
    go : (x y z : ℤ) → x *ℤ pos 0 +ℤ y *ℤ pos 1 +ℤ z *ℤ pos 0 ≡ y
    go x y z = omega (zarith, d_mul x (pos 0), d_mul y (pos 1), d_mul z (pos 0), d_add (x *ℤ pos 0) (y *ℤ pos 1), d_add (x *ℤ pos 0 +ℤ y *ℤ pos 1) (z *ℤ pos 0))
picked a (suc (suc zero)) h = go (at a 0) (at a 1) (at a 2)
  where
    go : (x y z : ℤ) → x *ℤ pos 0 +ℤ y *ℤ pos 0 +ℤ z *ℤ pos 1 ≡ z
    go x y z = omega (zarith, d_mul x (pos 0), d_mul y (pos 0), d_mul z (pos 1), d_add (x *ℤ pos 0) (y *ℤ pos 0), d_add (x *ℤ pos 0 +ℤ y *ℤ pos 0) (z *ℤ pos 1))
picked a (suc (suc (suc k))) h = absurd (omega arith)

column_is : (m : List (List ℤ)) (k : ℕ) → k ≤ 2 → squares_of (sums m (axis k)) ≡ squares_of (column_of m k)
column_is m k h = λ i. square_of (picked (row_at m 0) k h i) + square_of (picked (row_at m 1) k h i) + square_of (picked (row_at m 2) k h i)

module _ (c : ℕ) (m : List (List ℤ)) (s : Stretches c m) where
  pub way : (back : Bool) (v : List ℤ) → squares_of (sums (way_of back m) v) ≤ c * squares_of v
  way false v = s.there v
  way true v = s.back v

  pub row_small : (back : Bool) (i : ℕ) → i ≤ 2 → squares_of (row_at (way_of back m) i) ≤ c
  row_small false zero h = omega (arith, column_is (transposed m) 0 h, s.back (axis 0))
  row_small false (suc zero) h = omega (arith, column_is (transposed m) 1 h, s.back (axis 1))
  row_small false (suc (suc zero)) h = omega (arith, column_is (transposed m) 2 h, s.back (axis 2))
  row_small false (suc (suc (suc i))) h = absurd (omega arith)
  row_small true zero h = omega (arith, column_is m 0 h, s.there (axis 0))
  row_small true (suc zero) h = omega (arith, column_is m 1 h, s.there (axis 1))
  row_small true (suc (suc zero)) h = omega (arith, column_is m 2 h, s.there (axis 2))
  row_small true (suc (suc (suc i))) h = absurd (omega arith)
