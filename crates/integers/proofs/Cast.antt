-- What the machine reads back of a signed number, and its casts between signed and unsigned numbers of 64 bits.
-- A signed local holds bits, so each use of a number z is `read z`; where z fits, that is z.
use mathlib.Core.Path.{◌≡◌, subst, subst⁻¹, sym, ap, ◌∙◌}
use Prim.Native.Nat.{ℕ, ◌^◌, ◌<◌}
use lib.Dec.{T}
use lib.IntN.{ℤ, pos, nat_abs}
use lib.Signed.{mag, non_neg, ◌≤ℤ◌, yes_non_neg}
use mir.Syntax.{w64}
use mir.Val.{Fits, SFits, to_z, of_z}
use mir.ValLaws.{to_z-of_z}

abbrev pub read : ℤ → ℤ
read z = to_z w64 (of_z w64 z)

pub back : (z : ℤ) → SFits w64 z → read z ≡ z
back z f = to_z-of_z w64 z f

-- a call's result, of which the bare bound is known
pub back_ok : (z : ℤ) → mag z < 2 ^ 63 → read z ≡ z
back_ok z f = back z (record { sfits = f })

-- two numbers of the same bits are one
pub same_bits : {a b : ℤ} → SFits w64 a → SFits w64 b → of_z w64 a ≡ of_z w64 b → a ≡ b
same_bits {a} {b} f g e = sym (back a f) ∙ ap (to_z w64) e ∙ back b g

-- ---- an operation of the machine: its operands are read back as x and y, which are the numbers x' and y'
module _ (op : ℤ → ℤ → ℤ) {x y x' y' : ℤ} (ex : x ≡ x') (ey : y ≡ y') (f : SFits w64 (op x' y')) where
  pub fits₂ : SFits w64 (op x y)
  fits₂ = subst (SFits w64) (λ i. op (sym ex i) (sym ey i)) f

  pub val₂ : read (op x y) ≡ op x' y'
  val₂ = back _ fits₂ ∙ (λ i. op (ex i) (ey i))

-- ---- `x as u64` of a number that is not negative, and `n as i64`
pub cast_fits : {x z : ℤ} → x ≡ z → pos 0 ≤ℤ z → nat_abs z < 2 ^ 64 → T (non_neg x) × Fits w64 (nat_abs x)
cast_fits {x} {z} e h l = subst⁻¹ (λ (y : ℤ). T (non_neg y) × Fits w64 (nat_abs y)) e (yes_non_neg h, record { fits = l })

pub of_nat : (n : ℕ) → n < 2 ^ 63 → to_z w64 n ≡ pos n
of_nat n h = back (pos n) (record { sfits = h })

pub pos_fits : (n : ℕ) → n < 2 ^ 63 → SFits w64 (pos n)
pos_fits n h = record { sfits = h }
