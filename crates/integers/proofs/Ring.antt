-- The ring's laws on ℤ, for `simp ring`, and differences of two naturals, `sub_ℕ a b`, which is a - b.
-- Products become products of the sides (Difference), and omega multiplies them out.
use Prim.Native.Nat.{ℕ, suc, ◌+◌, ◌*◌, ◌-◌, ◌<◌, ◌≤◌}
use native.Mathlib.Omega.{arith}
use native.Mathlib.Nat as NatL
use mathlib.Core.Path.{◌≡◌, refl, sym, ◌∙◌, ap}
use lib.IntN.{ℤ, pos, negsuc, nat_abs, neg_ℤ, sub_ℕ, ◌+ℤ◌, ◌-ℤ◌, ◌*ℤ◌, +ℤ_assoc, +ℤ_comm, *ℤ_comm}
use lib.Dec.{leb}
use lib.Signed.{le_z, ◌≤ℤ◌, ◌<ℤ◌, clash_ℤ}
use native.Mathlib.Decide.{dec_lt}
use borrow.Author.Tests.{le-leb, lt-leb}
use Rattle.integers.specs.Range.{apart}
use Rattle.integers.proofs.Table.{yes as yes_true, no as no_false}
use Rattle.integers.proofs.Difference.{up, dn, zarith, d_sub, d_add, d_minus, d_mul, d_abs, abs_d, ext, d_le, d_lt, up_neg, dn_neg, le_d}

pub *ℤ-distrib_l : (a b c : ℤ) → a *ℤ (b +ℤ c) ≡ a *ℤ b +ℤ a *ℤ c
*ℤ-distrib_l a b c =
    omega (zarith, d_mul a (b +ℤ c), ap (λ (n : ℕ). up a * n) (d_add b c), ap (λ (n : ℕ). dn a * n) (d_add b c), d_mul a b, d_mul a c, d_add (a *ℤ b) (a *ℤ c))

pub *ℤ-distrib_r : (a b c : ℤ) → (a +ℤ b) *ℤ c ≡ a *ℤ c +ℤ b *ℤ c
*ℤ-distrib_r a b c = *ℤ_comm (a +ℤ b) c ∙ *ℤ-distrib_l c a b ∙ (λ i. *ℤ_comm c a i +ℤ *ℤ_comm c b i)

pub *ℤ-assoc : (a b c : ℤ) → (a *ℤ b) *ℤ c ≡ a *ℤ (b *ℤ c)
*ℤ-assoc a b c =
    omega (zarith, d_mul (a *ℤ b) c, d_mul a (b *ℤ c), ap (λ (n : ℕ). n * up c) (d_mul a b), ap (λ (n : ℕ). n * dn c) (d_mul a b), ap (λ (n : ℕ). up a * n) (d_mul b c), ap (λ (n : ℕ). dn a * n) (d_mul b c))

pub +ℤ-left_comm : (a b c : ℤ) → a +ℤ (b +ℤ c) ≡ b +ℤ (a +ℤ c)
+ℤ-left_comm a b c = sym (+ℤ_assoc a b c) ∙ ap (λ (z : ℤ). z +ℤ c) (+ℤ_comm a b) ∙ +ℤ_assoc b a c

pub *ℤ-left_comm : (a b c : ℤ) → a *ℤ (b *ℤ c) ≡ b *ℤ (a *ℤ c)
*ℤ-left_comm a b c = sym (*ℤ-assoc a b c) ∙ ap (λ (z : ℤ). z *ℤ c) (*ℤ_comm a b) ∙ *ℤ-assoc b a c

pub ruleset ring = (*ℤ-distrib_l, *ℤ-distrib_r, *ℤ-assoc, *ℤ_comm, *ℤ-left_comm, +ℤ_assoc, +ℤ_comm, +ℤ-left_comm)

pub minus_plus : (z p : ℤ) → p +ℤ (z -ℤ p) ≡ z
minus_plus z p = omega (zarith, d_minus z p, d_add p (z -ℤ p))

-- a product of two wide numbers, by the quotients and rests of a divisor
pub split_product : (x y u v q s d : ℤ) → u *ℤ d +ℤ v ≡ x → q *ℤ d +ℤ s ≡ y → (x *ℤ q +ℤ u *ℤ s) *ℤ d +ℤ v *ℤ s ≡ x *ℤ y
split_product x y u v q s d e f = rw (← e, ← f) (simp ring)

pub zero_minus : (z : ℤ) → pos 0 -ℤ z ≡ neg_ℤ z
zero_minus z = ext (pos 0 -ℤ z) (neg_ℤ z) (omega (arith, d_minus (pos 0) z, up_neg z, dn_neg z))

-- ---- minus signs
pub neg_mul : (x y : ℤ) → neg_ℤ x *ℤ y ≡ neg_ℤ (x *ℤ y)
neg_mul x y =
    omega (zarith, d_mul (neg_ℤ x) y, ap (λ (n : ℕ). n * up y) (up_neg x), ap (λ (n : ℕ). n * dn y) (up_neg x), ap (λ (n : ℕ). n * up y) (dn_neg x), ap (λ (n : ℕ). n * dn y) (dn_neg x), d_mul x y, up_neg (x *ℤ y), dn_neg (x *ℤ y))

pub mul_neg : (x y : ℤ) → x *ℤ neg_ℤ y ≡ neg_ℤ (x *ℤ y)
mul_neg x y = *ℤ_comm x (neg_ℤ y) ∙ neg_mul y x ∙ ap neg_ℤ (*ℤ_comm y x)

-- ---- order
pub pos_mono : (r : ℕ) (a b : ℤ) → a ≤ℤ b → (pos r *ℤ a) ≤ℤ (pos r *ℤ b)
pos_mono r a b h = omega (zarith, NatL.mul-le-mul_left r (le_d a b h), d_mul (pos r) a, d_mul (pos r) b)

pub neg_anti : (r : ℕ) (a b : ℤ) → a ≤ℤ b → (negsuc r *ℤ b) ≤ℤ (negsuc r *ℤ a)
neg_anti r a b h = omega (zarith, NatL.mul-le-mul_left (suc r) (le_d a b h), d_mul (negsuc r) a, d_mul (negsuc r) b)

-- ---- magnitudes
pub abs_neg : (z : ℤ) → nat_abs (neg_ℤ z) ≡ nat_abs z
abs_neg z = omega (arith, d_abs z, d_abs (neg_ℤ z), up_neg z, dn_neg z)

pub abs_mul : (a b : ℤ) → nat_abs (a *ℤ b) ≡ nat_abs a * nat_abs b
abs_mul (pos a) (pos b) = refl
abs_mul (pos a) (negsuc b) = abs_neg (pos (a * suc b))
abs_mul (negsuc a) (pos b) = abs_neg (pos (suc a * b))
abs_mul (negsuc a) (negsuc b) = refl

pub abs_mul_le : (a b : ℤ) {m n : ℕ} → nat_abs a ≤ m → nat_abs b ≤ n → nat_abs (a *ℤ b) ≤ m * n
abs_mul_le a b h k = rw (abs_mul a b) (NatL.mul-le-mul h k)

pub abs_add_le : (a b : ℤ) {m n : ℕ} → nat_abs a ≤ m → nat_abs b ≤ n → nat_abs (a +ℤ b) ≤ m + n
abs_add_le a b {m} {n} h k = abs_d (a +ℤ b) (m + n) (omega (arith, d_add a b, d_abs a, d_abs b))

pub abs_sub_le : (a b : ℤ) {m n : ℕ} → nat_abs a ≤ m → nat_abs b ≤ n → nat_abs (a -ℤ b) ≤ m + n
abs_sub_le a b {m} {n} h k = abs_d (a -ℤ b) (m + n) (omega (arith, d_minus a b, d_abs a, d_abs b))

-- ---- differences of naturals
pub sub_ge : (a b : ℕ) → b ≤ a → sub_ℕ a b ≡ pos (a - b)
sub_ge a b h = ext (sub_ℕ a b) (pos (a - b)) (omega (arith, d_sub a b))

pub sub_lt : (a b : ℕ) → a < b → sub_ℕ a b ≡ negsuc (b - suc a)
sub_lt a b h = ext (sub_ℕ a b) (negsuc (b - suc a)) (omega (arith, d_sub a b))

-- only the difference counts
pub sub_shift : (a b c d : ℕ) → a + d ≡ c + b → sub_ℕ a b ≡ sub_ℕ c d
sub_shift a b c d e = ext (sub_ℕ a b) (sub_ℕ c d) (omega (arith, d_sub a b, d_sub c d))

pub neg_is : (n : ℕ) → neg_ℤ (pos n) ≡ sub_ℕ 0 n
neg_is n = ext (neg_ℤ (pos n)) (sub_ℕ 0 n) (omega (arith, d_sub 0 n, up_neg (pos n), dn_neg (pos n)))

pub sub_sub : (d a b : ℕ) → sub_ℕ a d -ℤ sub_ℕ b d ≡ sub_ℕ a b
sub_sub d a b = ext (sub_ℕ a d -ℤ sub_ℕ b d) (sub_ℕ a b) (omega (arith, d_minus (sub_ℕ a d) (sub_ℕ b d), d_sub a d, d_sub b d, d_sub a b))

-- the size of a difference is how far its two numbers are apart
abs_by : (z : ℤ) (a b : ℕ) → up z + b ≡ dn z + a → nat_abs z ≡ apart a b
abs_by (pos n) a b e = omega arith
abs_by (negsuc n) a b e = omega arith

pub abs_sub : (d a b : ℕ) → nat_abs (sub_ℕ a d -ℤ sub_ℕ b d) ≡ apart a b
abs_sub d a b = ap nat_abs (sub_sub d a b) ∙ abs_by (sub_ℕ a b) a b (d_sub a b)

pub abs_minus : (a b : ℤ) → nat_abs (a -ℤ b) ≡ apart (up a + dn b) (dn a + up b)
abs_minus a b = abs_by (a -ℤ b) (up a + dn b) (dn a + up b) (d_minus a b)

-- and nothing where they are one, and only there
pub abs_itself : (z : ℤ) → nat_abs (z -ℤ z) ≡ 0
abs_itself z = omega (arith, abs_minus z z)

pub abs_none : (a b : ℤ) → nat_abs (a -ℤ b) ≤ 0 → a ≡ b
abs_none a b l = ext a b (omega (arith, abs_minus a b))

pub sub_mono : (d a b : ℕ) → a ≤ b → sub_ℕ a d ≤ℤ sub_ℕ b d
sub_mono d a b h = d_le (sub_ℕ a d) (sub_ℕ b d) (omega (arith, d_sub a d, d_sub b d))

pub sub_less : (d a b : ℕ) → a < b → sub_ℕ a d <ℤ sub_ℕ b d
sub_less d a b h = d_lt (sub_ℕ a d) (sub_ℕ b d) (omega (arith, d_sub a d, d_sub b d))

-- the test of two differences is that of the naturals
pub sub_test : (d a b : ℕ) → le_z (sub_ℕ a d) (sub_ℕ b d) ≡ leb a b
sub_test d a b = go (dec_lt b a)
  where
    go : Dec (b < a) → le_z (sub_ℕ a d) (sub_ℕ b d) ≡ leb a b
    go (yes l) = no_false (le_z (sub_ℕ a d) (sub_ℕ b d)) (λ t. clash_ℤ (sub_less d b a l) (record { le = t })) ∙ sym (lt-leb a b l)
    go (no l) = yes_true (le_z (sub_ℕ a d) (sub_ℕ b d)) (sub_mono d a b (omega arith)).le ∙ sym (le-leb a b (omega arith))
