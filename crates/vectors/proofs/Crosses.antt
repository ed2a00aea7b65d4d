-- Unit vectors and cross products: how long they are, and that a cross product is nearly at right angles to its factors.
-- Lagrange's |a×b|² + (a·b)² = |a|²|b|² and a·(a×b) = 0, and then the roundings of the divisions.
use mathlib.Core.Path.{◌≡◌, sym, ap, ◌∙◌}
use mathlib.Core.List.{List, [], ◌∷◌}
use Prim.Native.Nat.{ℕ, zero, suc, ◌+◌, ◌*◌, ◌^◌, ◌≤◌, ◌<◌}
use native.Mathlib.Nat.{mul-le-mul, le_of_mul-le-mul_right, zero-lt-suc, mul-zero}
use native.Mathlib.Decide.{dec_lt}
use native.Mathlib.Omega.{arith}
use lib.IntN.{ℤ, pos, nat_abs, ◌+ℤ◌, ◌-ℤ◌, ◌*ℤ◌}
use Rattle.integers.specs.Root.{IsRoot}
use Rattle.integers.proofs.Difference.{zarith, d_add}
use Rattle.integers.proofs.Ring.{ring, minus_plus, abs_mul}
use Rattle.integers.specs.Triple.{at}
use Rattle.integers.proofs.Squares.{square_is, sub_square, cancel_right}
use Rattle.integers.proofs.Ends.{floor_ends, ends_size}
use Rattle.vectors.specs.Vector.{dot_of, square_of, squares_of, length_of, over_length, unit_of, cross_of}
use Rattle.vectors.proofs.Lengths.{length_is}
use Rattle.vectors.proofs.Dots.{dot_self, rounded, EndsAll, dot_off}

-- ---- the length is the whole root
below_next : (x r : ℕ) → IsRoot x r → x < (r + 1) * (r + 1)
below_next x r h = go (dec_lt x ((r + 1) * (r + 1)))
  where
    go : Dec (x < (r + 1) * (r + 1)) → x < (r + 1) * (r + 1)
    go (yes l) = l
    go (no n) = let g = h.greatest (r + 1) (omega arith) in absurd (omega arith)

-- ---- the unit vector, of a length l of at least 10^9 / k
abbrev scaled : List ℤ → List ℤ
scaled v = (at v 0 *ℤ pos 1000000000) ∷ (at v 1 *ℤ pos 1000000000) ∷ (at v 2 *ℤ pos 1000000000) ∷ []

over_ends : (l : ℕ) (v : List ℤ) → EndsAll (suc l) (suc l) (over_length (suc l) v) (scaled v)
over_ends l v =
    record { first = floor_ends (at v 0 *ℤ pos 1000000000) l; second = floor_ends (at v 1 *ℤ pos 1000000000) l; third = floor_ends (at v 2 *ℤ pos 1000000000) l }

over_long : (l k : ℕ) (v : List ℤ) → squares_of v < (l + 1) * (l + 1) → 1000000000 ≤ k * l → squares_of (over_length l v) ≤ (1000000002 + k) * (1000000002 + k)
over_long zero k v h g = absurd (omega (arith, mul-zero k))
over_long (suc l) k v h g =
    let u = over_length (suc l) v in
    let e = over_ends l v in
    rounded (nat_abs (at v 0) * 1000000000) (nat_abs (at v 1) * 1000000000) (nat_abs (at v 2) * 1000000000) (nat_abs (at u 0)) (nat_abs (at u 1)) (nat_abs (at u 2))
    (1000000000 * (l + 2)) (suc l) (1000000002 + k) l
    (omega arith)
    (omega (arith, ends_size (at u 0) (at v 0 *ℤ pos 1000000000) e.first, abs_mul (at v 0) (pos 1000000000)))
    (omega (arith, ends_size (at u 1) (at v 1 *ℤ pos 1000000000) e.second, abs_mul (at v 1) (pos 1000000000)))
    (omega (arith, ends_size (at u 2) (at v 2 *ℤ pos 1000000000) e.third, abs_mul (at v 2) (pos 1000000000)))
    (omega arith)

module _ (v : List ℤ) (f : squares_of v < 2 ^ 64) (k : ℕ) (g : 1000000000 ≤ k * length_of v) where
  pub unit_long : squares_of (unit_of v) ≤ (1000000002 + k) * (1000000002 + k)
  unfolding unit_of
  unit_long = over_long (length_of v) k v (below_next (squares_of v) (length_of v) (length_is v f)) g

-- a sum of products with it is nearly that with v, over the length
dot_scaled : (a v : List ℤ) → dot_of a (scaled v) ≡ dot_of a v *ℤ pos 1000000000
dot_scaled a v = go (at a 0) (at a 1) (at a 2) (at v 0) (at v 1) (at v 2) (pos 1000000000)
  where
    go : (a b c x y z g : ℤ) → a *ℤ (x *ℤ g) +ℤ b *ℤ (y *ℤ g) +ℤ c *ℤ (z *ℤ g) ≡ (a *ℤ x +ℤ b *ℤ y +ℤ c *ℤ z) *ℤ g
    go a b c x y z g = simp ring

over_dot : (l i j : ℕ) (a v : List ℤ) → 0 < l → squares_of a ≤ i * i → nat_abs (dot_of a v) * 1000000000 ≤ j * l → nat_abs (dot_of a (over_length l v)) ≤ j + 2 * i
over_dot zero i j a v p h g = absurd (omega arith)
over_dot (suc l) i j a v p h g =
    let o = dot_off a (over_length (suc l) v) (scaled v) (over_ends l v) i h in
    le_of_mul-le-mul_right {k = suc l}
    (omega (arith, ap nat_abs (dot_scaled a v), abs_mul (dot_of a v) (pos 1000000000)))
    (zero-lt-suc l)

pub unit_dot : (a v : List ℤ) (i j : ℕ) → 0 < length_of v → squares_of a ≤ i * i → nat_abs (dot_of a v) * 1000000000 ≤ j * length_of v → nat_abs (dot_of a (unit_of v)) ≤ j + 2 * i
unfolding unit_of
unit_dot a v i j p h g = over_dot (length_of v) i j a v p h g

-- ---- the cross product before its divisions
abbrev raw : List ℤ → List ℤ → List ℤ
raw a b = (at a 1 *ℤ at b 2 -ℤ at a 2 *ℤ at b 1) ∷ (at a 2 *ℤ at b 0 -ℤ at a 0 *ℤ at b 2) ∷ (at a 0 *ℤ at b 1 -ℤ at a 1 *ℤ at b 0) ∷ []

cross_ends : (a b : List ℤ) → EndsAll 1000000000 1000000000 (cross_of a b) (raw a b)
unfolding cross_of
cross_ends a b =
    let r = raw a b in
    record { first = floor_ends (at r 0) 999999999; second = floor_ends (at r 1) 999999999; third = floor_ends (at r 2) 999999999 }

-- x·p = x·q makes x·(p - q) zero
right_angle : (a b c p q s x y z : ℤ) → a *ℤ p +ℤ b *ℤ q +ℤ c *ℤ s ≡ a *ℤ x +ℤ b *ℤ y +ℤ c *ℤ z → a *ℤ (p -ℤ x) +ℤ b *ℤ (q -ℤ y) +ℤ c *ℤ (s -ℤ z) ≡ pos 0
right_angle a b c p q s x y z e = alone (a *ℤ x +ℤ b *ℤ y +ℤ c *ℤ z) (a *ℤ (p -ℤ x) +ℤ b *ℤ (q -ℤ y) +ℤ c *ℤ (s -ℤ z)) (parts (p -ℤ x) (q -ℤ y) (s -ℤ z) (minus_plus p x) (minus_plus q y) (minus_plus s z) ∙ e)
  where
    split : (u v w : ℤ) → (a *ℤ x +ℤ b *ℤ y +ℤ c *ℤ z) +ℤ (a *ℤ u +ℤ b *ℤ v +ℤ c *ℤ w) ≡ a *ℤ (x +ℤ u) +ℤ b *ℤ (y +ℤ v) +ℤ c *ℤ (z +ℤ w)
    split u v w = simp ring

    parts : (u v w : ℤ) → x +ℤ u ≡ p → y +ℤ v ≡ q → z +ℤ w ≡ s → (a *ℤ x +ℤ b *ℤ y +ℤ c *ℤ z) +ℤ (a *ℤ u +ℤ b *ℤ v +ℤ c *ℤ w) ≡ a *ℤ p +ℤ b *ℤ q +ℤ c *ℤ s
    parts u v w i j k = split u v w ∙ (λ d. a *ℤ i d +ℤ b *ℤ j d +ℤ c *ℤ k d)

    alone : (m n : ℤ) → m +ℤ n ≡ m → n ≡ pos 0
    alone m n f = omega (zarith, d_add m n)

pub raw_left : (a b : List ℤ) → dot_of a (raw a b) ≡ pos 0
raw_left a b =
    right_angle (at a 0) (at a 1) (at a 2)
    (at a 1 *ℤ at b 2) (at a 2 *ℤ at b 0) (at a 0 *ℤ at b 1)
    (at a 2 *ℤ at b 1) (at a 0 *ℤ at b 2) (at a 1 *ℤ at b 0)
    (go (at a 0) (at a 1) (at a 2) (at b 0) (at b 1) (at b 2))
  where
    go : (a b c x y z : ℤ) → a *ℤ (b *ℤ z) +ℤ b *ℤ (c *ℤ x) +ℤ c *ℤ (a *ℤ y) ≡ a *ℤ (c *ℤ y) +ℤ b *ℤ (a *ℤ z) +ℤ c *ℤ (b *ℤ x)
    go a b c x y z = simp ring

pub raw_right : (a b : List ℤ) → dot_of b (raw a b) ≡ pos 0
raw_right a b =
    right_angle (at b 0) (at b 1) (at b 2)
    (at a 1 *ℤ at b 2) (at a 2 *ℤ at b 0) (at a 0 *ℤ at b 1)
    (at a 2 *ℤ at b 1) (at a 0 *ℤ at b 2) (at a 1 *ℤ at b 0)
    (go (at a 0) (at a 1) (at a 2) (at b 0) (at b 1) (at b 2))
  where
    go : (a b c x y z : ℤ) → x *ℤ (b *ℤ z) +ℤ y *ℤ (c *ℤ x) +ℤ z *ℤ (a *ℤ y) ≡ x *ℤ (c *ℤ y) +ℤ y *ℤ (a *ℤ z) +ℤ z *ℤ (b *ℤ x)
    go a b c x y z = simp ring

-- |a|²|b|² = (a·b)² + |a×b|²
lagrange₃ : (a b c x y z : ℤ) → (a *ℤ a +ℤ b *ℤ b +ℤ c *ℤ c) *ℤ (x *ℤ x +ℤ y *ℤ y +ℤ z *ℤ z) ≡ (a *ℤ x +ℤ b *ℤ y +ℤ c *ℤ z) *ℤ (a *ℤ x +ℤ b *ℤ y +ℤ c *ℤ z) +ℤ ((b *ℤ z -ℤ c *ℤ y) *ℤ (b *ℤ z -ℤ c *ℤ y) +ℤ (c *ℤ x -ℤ a *ℤ z) *ℤ (c *ℤ x -ℤ a *ℤ z) +ℤ (a *ℤ y -ℤ b *ℤ x) *ℤ (a *ℤ y -ℤ b *ℤ x))
lagrange₃ a b c x y z =
    taken ((a *ℤ a +ℤ b *ℤ b +ℤ c *ℤ c) *ℤ (x *ℤ x +ℤ y *ℤ y +ℤ z *ℤ z)) ((a *ℤ x +ℤ b *ℤ y +ℤ c *ℤ z) *ℤ (a *ℤ x +ℤ b *ℤ y +ℤ c *ℤ z))
    (b *ℤ z) (c *ℤ y) (c *ℤ x) (a *ℤ z) (a *ℤ y) (b *ℤ x) multiplied
  where
    multiplied : (a *ℤ a +ℤ b *ℤ b +ℤ c *ℤ c) *ℤ (x *ℤ x +ℤ y *ℤ y +ℤ z *ℤ z) +ℤ ((b *ℤ z *ℤ (c *ℤ y) +ℤ b *ℤ z *ℤ (c *ℤ y)) +ℤ (c *ℤ x *ℤ (a *ℤ z) +ℤ c *ℤ x *ℤ (a *ℤ z)) +ℤ (a *ℤ y *ℤ (b *ℤ x) +ℤ a *ℤ y *ℤ (b *ℤ x))) ≡ (a *ℤ x +ℤ b *ℤ y +ℤ c *ℤ z) *ℤ (a *ℤ x +ℤ b *ℤ y +ℤ c *ℤ z) +ℤ ((b *ℤ z *ℤ (b *ℤ z) +ℤ c *ℤ y *ℤ (c *ℤ y)) +ℤ (c *ℤ x *ℤ (c *ℤ x) +ℤ a *ℤ z *ℤ (a *ℤ z)) +ℤ (a *ℤ y *ℤ (a *ℤ y) +ℤ b *ℤ x *ℤ (b *ℤ x)))
    multiplied = simp ring

    sorted : (n u v w d e f : ℤ) → n +ℤ ((u +ℤ d) +ℤ (v +ℤ e) +ℤ (w +ℤ f)) ≡ n +ℤ (u +ℤ v +ℤ w) +ℤ (d +ℤ e +ℤ f)
    sorted n u v w d e f = simp ring

    taken : (m n p q r s t w : ℤ) → m +ℤ ((p *ℤ q +ℤ p *ℤ q) +ℤ (r *ℤ s +ℤ r *ℤ s) +ℤ (t *ℤ w +ℤ t *ℤ w)) ≡ n +ℤ ((p *ℤ p +ℤ q *ℤ q) +ℤ (r *ℤ r +ℤ s *ℤ s) +ℤ (t *ℤ t +ℤ w *ℤ w)) → m ≡ n +ℤ ((p -ℤ q) *ℤ (p -ℤ q) +ℤ (r -ℤ s) *ℤ (r -ℤ s) +ℤ (t -ℤ w) *ℤ (t -ℤ w))
    taken m n p q r s t w h =
        cancel_right m (n +ℤ ((p -ℤ q) *ℤ (p -ℤ q) +ℤ (r -ℤ s) *ℤ (r -ℤ s) +ℤ (t -ℤ w) *ℤ (t -ℤ w))) ((p *ℤ q +ℤ p *ℤ q) +ℤ (r *ℤ s +ℤ r *ℤ s) +ℤ (t *ℤ w +ℤ t *ℤ w))
        (h
        ∙ (λ i. n +ℤ (sym (sub_square p q) i +ℤ sym (sub_square r s) i +ℤ sym (sub_square t w) i))
        ∙ sorted n ((p -ℤ q) *ℤ (p -ℤ q)) ((r -ℤ s) *ℤ (r -ℤ s)) ((t -ℤ w) *ℤ (t -ℤ w)) (p *ℤ q +ℤ p *ℤ q) (r *ℤ s +ℤ r *ℤ s) (t *ℤ w +ℤ t *ℤ w))

pub lagrange : (a b : List ℤ) → squares_of a * squares_of b ≡ square_of (dot_of a b) + squares_of (raw a b)
lagrange a b =
    ap nat_abs
    ((λ i. sym (dot_self a) i *ℤ sym (dot_self b) i)
    ∙ lagrange₃ (at a 0) (at a 1) (at a 2) (at b 0) (at b 1) (at b 2)
    ∙ (λ i. square_is (dot_of a b) i +ℤ dot_self (raw a b) i))

-- ---- the cross product of vectors no longer than i and j
module _ (a b : List ℤ) (i j : ℕ) (p : squares_of a ≤ i * i) (q : squares_of b ≤ j * j) where
  raw_long : squares_of (raw a b) ≤ i * j * (i * j)
  raw_long = let h = mul-le-mul p q in omega (arith, lagrange a b)

  pub cross_long : (n : ℕ) → i * j + 2000000000 ≤ n * 1000000000 → squares_of (cross_of a b) ≤ n * n
  cross_long n h =
      let r = raw a b in
      let c = cross_of a b in
      let e = cross_ends a b in
      rounded (nat_abs (at r 0)) (nat_abs (at r 1)) (nat_abs (at r 2)) (nat_abs (at c 0)) (nat_abs (at c 1)) (nat_abs (at c 2)) (i * j) 1000000000 n 999999999 raw_long
      (ends_size (at c 0) (at r 0) e.first)
      (ends_size (at c 1) (at r 1) e.second)
      (ends_size (at c 2) (at r 2) e.third)
      h

  -- it is nearly at right angles to both
  pub cross_left : nat_abs (dot_of a (cross_of a b)) ≤ 2 * i
  cross_left = let o = dot_off a (cross_of a b) (raw a b) (cross_ends a b) i p in omega (arith, ap nat_abs (raw_left a b))

  pub cross_right : nat_abs (dot_of b (cross_of a b)) ≤ 2 * j
  cross_right = let o = dot_off b (cross_of a b) (raw a b) (cross_ends a b) j q in omega (arith, ap nat_abs (raw_right a b))
