-- The test whether two numbers are one, and that the machine tells it by their bits; the test whether their signs are opposite.
-- By the cases of ℤ; two numbers that fit have the same bits where they are one (Cast).
use mathlib.Core.Bool.{Bool, true, false, ◌&&◌, ◌||◌}
use mathlib.Core.Path.{◌≡◌, refl, ap, sym, subst⁻¹, ◌∙◌}
use Prim.Native.Nat.{ℕ, zero, suc, ◌*◌, ◌^◌, ◌≤◌}
use native.Mathlib.Omega.{arith}
use lib.Dec.{T, ltb, ltb→lt, eqb, eqb→eq}
use lib.IntN.{ℤ, pos, negsuc, nat_abs, ◌*ℤ◌}
use lib.Signed.{lt_z, ◌≤ℤ◌, ◌<ℤ◌, clash_ℤ}
use mir.Syntax.{w64}
use mir.Val.{SFits, of_z}
use borrow.Author.Tests.{eq-eqb, ne_eqb}
use Rattle.integers.specs.Sign.{same, opposite_signs}
use Rattle.integers.proofs.Difference.{zarith, d_mul}
use Rattle.integers.proofs.Table.{yes, no}
use Rattle.integers.proofs.Cast.{same_bits, pos_fits}

pub same_yes : (a b : ℤ) → a ≡ b → same a b ≡ true
same_yes (pos a) (pos b) e = eq-eqb a b (ap nat_abs e)
same_yes (pos a) (negsuc b) e = absurd (omega (zarith, e))
same_yes (negsuc a) (pos b) e = absurd (omega (zarith, e))
same_yes (negsuc a) (negsuc b) e = eq-eqb a b (omega (zarith, e))

pub same_no : (a b : ℤ) → (a ≡ b → ⊥) → same a b ≡ false
same_no (pos a) (pos b) n = ne_eqb a b (λ e. n (ap pos e))
same_no (pos a) (negsuc b) n = refl
same_no (negsuc a) (pos b) n = refl
same_no (negsuc a) (negsuc b) n = ne_eqb a b (λ e. n (ap negsuc e))

pub same_eq : (a b : ℤ) → T (same a b) → a ≡ b
same_eq (pos a) (pos b) t = ap pos (eqb→eq a b t)
same_eq (pos a) (negsuc b) t = absurd t
same_eq (negsuc a) (pos b) t = absurd t
same_eq (negsuc a) (negsuc b) t = ap negsuc (eqb→eq a b t)

-- ---- by bits
module _ {a b : ℤ} (f : SFits w64 a) (g : SFits w64 b) where
  pub same_by_bits : of_z w64 a ≡ of_z w64 b → same a b ≡ true
  same_by_bits e = same_yes a b (same_bits f g e)

  pub other_by_bits : (of_z w64 a ≡ of_z w64 b → ⊥) → same a b ≡ false
  other_by_bits n = same_no a b (λ e. n (ap (of_z w64) e))

-- a number beside one that is written in the code
module _ {a : ℤ} (f : SFits w64 a) (n : ℕ) (small : T (ltb n (2 ^ 63))) where
  pub is_written : of_z w64 a ≡ n → same a (pos n) ≡ true
  is_written e = same_by_bits f (pos_fits n (ltb→lt n (2 ^ 63) small)) e

  pub is_other : (of_z w64 a ≡ n → ⊥) → same a (pos n) ≡ false
  is_other e = other_by_bits f (pos_fits n (ltb→lt n (2 ^ 63) small)) e

-- the test of the bits is the test of the numbers
alike : (a b : Bool) → (T a → b ≡ true) → ((T a → ⊥) → b ≡ false) → a ≡ b
alike true b f g = sym (f tt)
alike false b f g = sym (g (λ t. t))

pub bits_tell : (a b : ℤ) → SFits w64 a → SFits w64 b → eqb (of_z w64 a) (of_z w64 b) ≡ same a b
bits_tell a b f g =
    alike (eqb (of_z w64 a) (of_z w64 b)) (same a b)
    (λ t. same_by_bits f g (eqb→eq (of_z w64 a) (of_z w64 b) t))
    (λ n. other_by_bits f g (λ e. n (told e)))
  where
    told : of_z w64 a ≡ of_z w64 b → T (eqb (of_z w64 a) (of_z w64 b))
    told e = subst⁻¹ T (eq-eqb (of_z w64 a) (of_z w64 b) e) tt

-- ---- opposite signs
is_less : (a b : ℤ) → a <ℤ b → lt_z a b ≡ true
is_less a b h = yes (lt_z a b) h.lt

pub no_less : (a b : ℤ) → b ≤ℤ a → lt_z a b ≡ false
no_less a b h = no (lt_z a b) (λ t. clash_ℤ (record { lt = t }) h)

at_least_1 : (a b : ℕ) → 1 ≤ suc a * suc b
at_least_1 a b = omega arith

-- by the outcomes of the four tests, and of that of the product
by_signs : (a b : ℤ) {p q r s x : Bool} → lt_z a (pos 0) ≡ p → lt_z (pos 0) b ≡ q → lt_z (pos 0) a ≡ r → lt_z b (pos 0) ≡ s → opposite_signs a b ≡ x → (p && q) || (r && s) ≡ x
    → (lt_z a (pos 0) && lt_z (pos 0) b) || (lt_z (pos 0) a && lt_z b (pos 0)) ≡ opposite_signs a b
by_signs a b e f g h k t = (λ i. (e i && f i) || (g i && h i)) ∙ t ∙ sym k

pub signs_tell : (a b : ℤ) → (lt_z a (pos 0) && lt_z (pos 0) b) || (lt_z (pos 0) a && lt_z b (pos 0)) ≡ opposite_signs a b
signs_tell (pos zero) b = sym (no_less (pos zero *ℤ b) (pos 0) (omega (zarith, d_mul (pos zero) b)))
signs_tell (pos (suc a)) (pos b) =
    by_signs (pos (suc a)) (pos b) (no_less (pos (suc a)) (pos 0) (omega zarith)) refl (is_less (pos 0) (pos (suc a)) (omega zarith)) (no_less (pos b) (pos 0) (omega zarith))
    (no_less (pos (suc a) *ℤ pos b) (pos 0) (omega (zarith, d_mul (pos (suc a)) (pos b)))) refl
signs_tell (pos (suc a)) (negsuc b) =
    by_signs (pos (suc a)) (negsuc b) (no_less (pos (suc a)) (pos 0) (omega zarith)) refl (is_less (pos 0) (pos (suc a)) (omega zarith)) refl
    (is_less (pos (suc a) *ℤ negsuc b) (pos 0) (omega (zarith, d_mul (pos (suc a)) (negsuc b), at_least_1 a b))) refl
signs_tell (negsuc a) (pos zero) = sym (no_less (negsuc a *ℤ pos zero) (pos 0) (omega (zarith, d_mul (negsuc a) (pos zero))))
signs_tell (negsuc a) (pos (suc b)) =
    by_signs (negsuc a) (pos (suc b)) refl (is_less (pos 0) (pos (suc b)) (omega zarith)) refl (no_less (pos (suc b)) (pos 0) (omega zarith))
    (is_less (negsuc a *ℤ pos (suc b)) (pos 0) (omega (zarith, d_mul (negsuc a) (pos (suc b)), at_least_1 a b))) refl
signs_tell (negsuc a) (negsuc b) = sym (no_less (negsuc a *ℤ negsuc b) (pos 0) (omega (zarith, d_mul (negsuc a) (negsuc b))))

pub zero_opposite : (a : ℤ) → opposite_signs a (pos 0) ≡ false
zero_opposite a = no_less (a *ℤ pos 0) (pos 0) (omega (zarith, d_mul a (pos 0)))
