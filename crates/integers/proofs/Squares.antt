-- Squares of numbers: they rise, 2 a b is at most a² + b², and a turn in a plane by s and c multiplies a sum of two by s² + c².
-- Identities over ℤ by `simp ring`, which knows no minus: (p - q)² + 2 p q = p² + q² stands in for it. Orders over ℕ, on sizes.
use mathlib.Core.Path.{◌≡◌, refl, sym, ap, subst, ◌∙◌}
use Prim.Native.Nat.{ℕ, ◌+◌, ◌-◌, ◌*◌, ◌≤◌, ◌<◌}
use native.Mathlib.Nat.{mul-le-mul, mul-le-mul_right}
use native.Mathlib.Decide.{dec_lt}
use native.Mathlib.Omega.{arith}
use lib.IntN.{ℤ, pos, negsuc, neg_ℤ, nat_abs, ◌+ℤ◌, ◌-ℤ◌, ◌*ℤ◌, +ℤ_assoc}
use Rattle.integers.proofs.Difference.{zarith, d_add}
use Rattle.integers.proofs.Ring.{ring, minus_plus, neg_mul}

-- ---- over ℕ
pub square_mono : (k m : ℕ) → k ≤ m → k * k ≤ m * m
square_mono k m h = mul-le-mul h h

pub from_squares : (x y : ℕ) → x * x ≤ y * y → x ≤ y
from_squares x y h = go (dec_lt y x)
  where
    go : Dec (y < x) → x ≤ y
    go (yes l) = let q = mul-le-mul l l in absurd (omega arith)
    go (no l) = omega arith

pub mean : (a b : ℕ) → 2 * (a * b) ≤ a * a + b * b
mean a b = go (dec_lt a b)
  where
    by : (x d : ℕ) → 2 * (x * (x + d)) ≤ x * x + (x + d) * (x + d)
    by x d = omega arith

    go : Dec (a < b) → 2 * (a * b) ≤ a * a + b * b
    go (yes l) =
        let e : a + (b - a) ≡ b = omega arith in
        let g = by a (b - a) in
        rw e at g
    go (no l) =
        let e : b + (a - b) ≡ a = omega arith in
        let g = by b (a - b) in
        let h = rw e at g in
        omega arith

-- a vector (u, v) of a length of at least k, and (x, y) that is off it by r and s: it is no shorter than n
pub near_long : (x y u v r s n k : ℕ) → k * k ≤ u * u + v * v → u ≤ x + r → v ≤ y + s → n + (r + s) ≤ k → n * n ≤ x * x + y * y
near_long x y u v r s n k h hu hv l = go (dec_lt (x * x + y * y) (n * n))
  where
    go : Dec (x * x + y * y < n * n) → n * n ≤ x * x + y * y
    go (no d) = omega arith
    go (yes d) =
        let hx = mul-le-mul_right r (from_squares x n (omega arith)) in
        let hy = mul-le-mul_right s (from_squares y n (omega arith)) in
        let a = mul-le-mul hu hu in
        let b = mul-le-mul hv hv in
        let c = mul-le-mul l l in
        absurd (omega arith)

-- ---- over ℤ
-- a square is its size squared
pub square_is : (z : ℤ) → z *ℤ z ≡ pos (nat_abs z * nat_abs z)
square_is (pos n) = refl
square_is (negsuc n) = refl

-- (p - q)² + 2pq = p² + q²
pub sub_square : (p q : ℤ) → (p -ℤ q) *ℤ (p -ℤ q) +ℤ (p *ℤ q +ℤ p *ℤ q) ≡ p *ℤ p +ℤ q *ℤ q
sub_square p q = go (p -ℤ q) p (minus_plus p q)
  where
    by : (u : ℤ) → u *ℤ u +ℤ ((q +ℤ u) *ℤ q +ℤ (q +ℤ u) *ℤ q) ≡ (q +ℤ u) *ℤ (q +ℤ u) +ℤ q *ℤ q
    by u = simp ring

    go : (u p : ℤ) → q +ℤ u ≡ p → u *ℤ u +ℤ (p *ℤ q +ℤ p *ℤ q) ≡ p *ℤ p +ℤ q *ℤ q
    go u p e = subst (λ (x : ℤ). u *ℤ u +ℤ (x *ℤ q +ℤ x *ℤ q) ≡ x *ℤ x +ℤ q *ℤ q) e (by u)

pub cancel_right : (x y d : ℤ) → x +ℤ d ≡ y +ℤ d → x ≡ y
cancel_right x y d g = omega (zarith, d_add x d, d_add y d)

-- ---- a turn in a plane: (c x - s y)² + (s x + c y)² = (c² + s²)(x² + y²)
plane_turn : (s c x y : ℤ) → (c *ℤ c +ℤ s *ℤ s) *ℤ (x *ℤ x +ℤ y *ℤ y) ≡ (s *ℤ x +ℤ c *ℤ y) *ℤ (s *ℤ x +ℤ c *ℤ y) +ℤ (c *ℤ x +ℤ neg_ℤ s *ℤ y) *ℤ (c *ℤ x +ℤ neg_ℤ s *ℤ y)
plane_turn s c x y =
    let p = c *ℤ x in
    let q = s *ℤ y in
    let w = s *ℤ x +ℤ c *ℤ y in
    cancel_right ((c *ℤ c +ℤ s *ℤ s) *ℤ (x *ℤ x +ℤ y *ℤ y)) (w *ℤ w +ℤ (p -ℤ q) *ℤ (p -ℤ q)) (p *ℤ q +ℤ p *ℤ q)
    (multiplied ∙ ap (λ (z : ℤ). w *ℤ w +ℤ z) (sym (sub_square p q)) ∙ sym (+ℤ_assoc (w *ℤ w) ((p -ℤ q) *ℤ (p -ℤ q)) (p *ℤ q +ℤ p *ℤ q)))
    ∙ ap (λ (z : ℤ). w *ℤ w +ℤ (p +ℤ z) *ℤ (p +ℤ z)) (sym (neg_mul s y))
  where
    multiplied : (c *ℤ c +ℤ s *ℤ s) *ℤ (x *ℤ x +ℤ y *ℤ y) +ℤ (c *ℤ x *ℤ (s *ℤ y) +ℤ c *ℤ x *ℤ (s *ℤ y)) ≡ (s *ℤ x +ℤ c *ℤ y) *ℤ (s *ℤ x +ℤ c *ℤ y) +ℤ (c *ℤ x *ℤ (c *ℤ x) +ℤ s *ℤ y *ℤ (s *ℤ y))
    multiplied = simp ring

pub turn_squares : (s c x y : ℤ) → (nat_abs c * nat_abs c + nat_abs s * nat_abs s) * (nat_abs x * nat_abs x + nat_abs y * nat_abs y) ≡ nat_abs (s *ℤ x +ℤ c *ℤ y) * nat_abs (s *ℤ x +ℤ c *ℤ y) + nat_abs (c *ℤ x +ℤ neg_ℤ s *ℤ y) * nat_abs (c *ℤ x +ℤ neg_ℤ s *ℤ y)
turn_squares s c x y =
    ap nat_abs
    ((λ i. (sym (square_is c) i +ℤ sym (square_is s) i) *ℤ (sym (square_is x) i +ℤ sym (square_is y) i))
    ∙ plane_turn s c x y
    ∙ (λ i. square_is (s *ℤ x +ℤ c *ℤ y) i +ℤ square_is (c *ℤ x +ℤ neg_ℤ s *ℤ y) i))
