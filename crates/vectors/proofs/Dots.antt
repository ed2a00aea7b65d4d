-- Sums of products of triples: squares, the inequality of Cauchy, and what roundings of the parts do to lengths and to sums.
-- Identities over ℤ by `simp ring`; inequalities over ℕ, on the sizes of the parts, from 2xy ≤ x² + y².
use mathlib.Core.Path.{◌≡◌, ◌∙◌, sym}
use mathlib.Core.List.{List, [], ◌∷◌}
use Prim.Native.Nat.{ℕ, suc, ◌+◌, ◌*◌, ◌≤◌, ◌<◌}
use native.Mathlib.Nat.{mul-le-mul, mul-le-mul_left, le_trans, le_of_mul-le-mul_right, le_refl}
use native.Mathlib.Omega.{arith}
use lib.IntN.{ℤ, pos, nat_abs, ◌+ℤ◌, ◌*ℤ◌, *ℤ_comm, ◌-ℤ◌}
use Rattle.integers.specs.Range.{Within}
use Rattle.integers.proofs.Ring.{ring, minus_plus, abs_add_le, abs_mul}
use Rattle.integers.proofs.Number.{w_add, w_mul, w_lit}
use Rattle.integers.specs.Triple.{at}
use Rattle.integers.proofs.Squares.{from_squares, mean, square_is}
use Rattle.integers.proofs.Ends.{Ends}
use Rattle.vectors.specs.Vector.{row_at, dot_of, transposed, squares_of}

-- ---- over ℤ
dot_linear : (p q r a b c d e f g h i x y z : ℤ) → p *ℤ (a *ℤ x +ℤ b *ℤ y +ℤ c *ℤ z) +ℤ q *ℤ (d *ℤ x +ℤ e *ℤ y +ℤ f *ℤ z) +ℤ r *ℤ (g *ℤ x +ℤ h *ℤ y +ℤ i *ℤ z) ≡ (a *ℤ p +ℤ d *ℤ q +ℤ g *ℤ r) *ℤ x +ℤ (b *ℤ p +ℤ e *ℤ q +ℤ h *ℤ r) *ℤ y +ℤ (c *ℤ p +ℤ f *ℤ q +ℤ i *ℤ r) *ℤ z
dot_linear p q r a b c d e f g h i x y z = simp ring

-- the three sums of products of a turn, before its divisions
abbrev pub sums : List (List ℤ) → List ℤ → List ℤ
sums m v = dot_of (row_at m 0) v ∷ dot_of (row_at m 1) v ∷ dot_of (row_at m 2) v ∷ []

-- w·(m v) = (mᵀ w)·v
pub adjoint : (m : List (List ℤ)) (w v : List ℤ) → dot_of w (sums m v) ≡ dot_of (sums (transposed m) w) v
adjoint m w v =
    dot_linear (at w 0) (at w 1) (at w 2)
    (at (row_at m 0) 0) (at (row_at m 0) 1) (at (row_at m 0) 2)
    (at (row_at m 1) 0) (at (row_at m 1) 1) (at (row_at m 1) 2)
    (at (row_at m 2) 0) (at (row_at m 2) 1) (at (row_at m 2) 2)
    (at v 0) (at v 1) (at v 2)

pub dot_comm : (a b : List ℤ) → dot_of a b ≡ dot_of b a
dot_comm a b = λ i. *ℤ_comm (at a 0) (at b 0) i +ℤ *ℤ_comm (at a 1) (at b 1) i +ℤ *ℤ_comm (at a 2) (at b 2) i

pub dot_self : (v : List ℤ) → dot_of v v ≡ pos (squares_of v)
dot_self v = λ i. square_is (at v 0) i +ℤ square_is (at v 1) i +ℤ square_is (at v 2) i

-- ---- over ℕ
-- the sizes' sum of products
abbrev pub sizes_of : List ℤ → List ℤ → ℕ
sizes_of a v = nat_abs (at a 0) * nat_abs (at v 0) + nat_abs (at a 1) * nat_abs (at v 1) + nat_abs (at a 2) * nat_abs (at v 2)

pub dot_size : (a v : List ℤ) → nat_abs (dot_of a v) ≤ sizes_of a v
dot_size a v = (w_add (w_add (product 0) (product 1)) (product 2)).within
  where
    product : (k : ℕ) → Within (nat_abs (at a k) * nat_abs (at v k)) (at a k *ℤ at v k)
    product k = w_mul (w_lit (at a k)) (w_lit (at v k))

cauchy₃ : (a b c x y z : ℕ) → (a * x + b * y + c * z) * (a * x + b * y + c * z) ≤ (a * a + b * b + c * c) * (x * x + y * y + z * z)
cauchy₃ a b c x y z =
    let p = mean (a * y) (b * x) in
    let q = mean (a * z) (c * x) in
    let r = mean (b * z) (c * y) in
    omega arith

pub cauchy : (a v : List ℤ) → sizes_of a v * sizes_of a v ≤ squares_of a * squares_of v
cauchy a v = cauchy₃ (nat_abs (at a 0)) (nat_abs (at a 1)) (nat_abs (at a 2)) (nat_abs (at v 0)) (nat_abs (at v 1)) (nat_abs (at v 2))

-- of vectors no longer than k and l
pub dot_long : (a v : List ℤ) (k l : ℕ) → squares_of a ≤ k * k → squares_of v ≤ l * l → sizes_of a v ≤ k * l
dot_long a v k l h i = from_squares (sizes_of a v) (k * l) (le_trans (cauchy a v) (le_trans (mul-le-mul h i) (omega arith)))

-- a vector no longer than k, parted by g and each part rounded by r: p g ≤ x + r
pub rounded : (x y z p q s k r n g : ℕ) → x * x + y * y + z * z ≤ k * k → p * suc g ≤ x + r → q * suc g ≤ y + r → s * suc g ≤ z + r → k + 2 * r ≤ n * suc g → p * p + q * q + s * s ≤ n * n
rounded x y z p q s k r n g h hp hq hs l =
    le_of_mul-le-mul_right {k = suc g * suc g}
    (let a = mul-le-mul hp hp in
    let b = mul-le-mul hq hq in
    let c = mul-le-mul hs hs in
    let d = mul-le-mul_left r sum in
    let e = mul-le-mul l l in
    omega arith)
    (mul_pos)
  where
    sum : x + y + z ≤ 2 * k
    sum =
        from_squares (x + y + z) (2 * k)
        (let a = mean x y in
        let b = mean x z in
        let c = mean y z in
        omega arith)

    mul_pos : 0 < suc g * suc g
    mul_pos = omega arith

-- ---- g p is within r of z, part by part
pub record EndsAll (g r : ℕ) (p z : List ℤ) : Type 0 where
  pub first : Ends g r (at p 0) (at z 0)
  pub second : Ends g r (at p 1) (at z 1)
  pub third : Ends g r (at p 2) (at z 2)

parted : (a b c p q s x y z e f h g : ℤ) → x +ℤ e ≡ p *ℤ g → y +ℤ f ≡ q *ℤ g → z +ℤ h ≡ s *ℤ g → (a *ℤ p +ℤ b *ℤ q +ℤ c *ℤ s) *ℤ g ≡ (a *ℤ x +ℤ b *ℤ y +ℤ c *ℤ z) +ℤ (a *ℤ e +ℤ b *ℤ f +ℤ c *ℤ h)
parted a b c p q s x y z e f h g i j k = whole ∙ (λ d. a *ℤ sym i d +ℤ b *ℤ sym j d +ℤ c *ℤ sym k d) ∙ apart
  where
    whole : (a *ℤ p +ℤ b *ℤ q +ℤ c *ℤ s) *ℤ g ≡ a *ℤ (p *ℤ g) +ℤ b *ℤ (q *ℤ g) +ℤ c *ℤ (s *ℤ g)
    whole = simp ring

    apart : a *ℤ (x +ℤ e) +ℤ b *ℤ (y +ℤ f) +ℤ c *ℤ (z +ℤ h) ≡ (a *ℤ x +ℤ b *ℤ y +ℤ c *ℤ z) +ℤ (a *ℤ e +ℤ b *ℤ f +ℤ c *ℤ h)
    apart = simp ring

-- what g p is off z, part by part
abbrev pub rests_of : ℕ → List ℤ → List ℤ → List ℤ
rests_of g p z = (at p 0 *ℤ pos g -ℤ at z 0) ∷ (at p 1 *ℤ pos g -ℤ at z 1) ∷ (at p 2 *ℤ pos g -ℤ at z 2) ∷ []

pub dot_parted : (g : ℕ) (a p z : List ℤ) → dot_of a p *ℤ pos g ≡ dot_of a z +ℤ dot_of a (rests_of g p z)
dot_parted g a p z =
    let e = rests_of g p z in
    parted (at a 0) (at a 1) (at a 2) (at p 0) (at p 1) (at p 2) (at z 0) (at z 1) (at z 2) (at e 0) (at e 1) (at e 2) (pos g)
    (minus_plus (at p 0 *ℤ pos g) (at z 0)) (minus_plus (at p 1 *ℤ pos g) (at z 1)) (minus_plus (at p 2 *ℤ pos g) (at z 2))

module _ {g r : ℕ} (a p z : List ℤ) (e : EndsAll g r p z) where
  pub rests_short : squares_of (rests_of g p z) ≤ 2 * r * (2 * r)
  rests_short =
      let x = mul-le-mul e.first.off e.first.off in
      let y = mul-le-mul e.second.off e.second.off in
      let w = mul-le-mul e.third.off e.third.off in
      omega arith

  pub dot_off : (k : ℕ) → squares_of a ≤ k * k → nat_abs (dot_of a p) * g ≤ nat_abs (dot_of a z) + k * (2 * r)
  dot_off k h =
      let y = rests_of g p z in
      let s = abs_add_le (dot_of a z) (dot_of a y) (le_refl (nat_abs (dot_of a z))) (le_trans (dot_size a y) (dot_long a y k (2 * r) h rests_short)) in
      let t = rw (← dot_parted g a p z) at s in
      omega (arith, abs_mul (dot_of a p) (pos g))
