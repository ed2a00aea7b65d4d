-- The digits and the sign of a signed number: at most 19 digits, since 2^63 is below 10^19.
-- By the two forms of a signed number.
use mathlib.Core.List.{◌∷◌}
use mathlib.Core.Path.{◌≡◌, refl, sym, ap, subst, ◌∙◌}
use Prim.Native.Nat.{ℕ, ◌^◌, ◌≤◌, ◌<◌}
use native.Mathlib.Omega.{arith}
use lib.IntN.{ℤ, pos, negsuc, nat_abs}
use lib.ListN.{length}
use lib.Signed.{◌≤ℤ◌, ◌<ℤ◌}
use mir.Syntax.{w64}
use mir.Val.{SFits}
use Rattle.integers.proofs.Difference.{lt_d}
use Rattle.integers.proofs.Cast.{read, back}
use Rattle.listing_lines.specs.Decimal.{decimal_of, signed_of}
use Rattle.listing_lines.proofs.Decimals.{digits_at_most}

pub size_short : (z : ℤ) (n : ℕ) → SFits w64 z → n ≡ nat_abs (read z) → length (decimal_of n) ≤ 19
size_short z n f e = digits_at_most 18 n (subst (λ (k : ℕ). k < 10 ^ 19) (sym (e ∙ ap nat_abs (back z f))) (below z f))
  where
    below : (z : ℤ) → SFits w64 z → nat_abs z < 10 ^ 19
    below (pos n) f = omega (arith, f.sfits)
    below (negsuc n) f = omega (arith, f.sfits)

pub with_minus : (z : ℤ) (n : ℕ) → SFits w64 z → z <ℤ pos 0 → n ≡ nat_abs (read z) → signed_of z ≡ 45 ∷ decimal_of n
with_minus z n f h e = go z h ∙ ap (λ (k : ℕ). 45 ∷ decimal_of k) (sym (e ∙ ap nat_abs (back z f)))
  where
    go : (z : ℤ) → z <ℤ pos 0 → signed_of z ≡ 45 ∷ decimal_of (nat_abs z)
    go (pos n) h = absurd (omega (arith, lt_d (pos n) (pos 0) h))
    go (negsuc n) h = refl

pub without : (z : ℤ) (n : ℕ) → SFits w64 z → pos 0 ≤ℤ z → n ≡ nat_abs (read z) → signed_of z ≡ decimal_of n
without z n f h e = go z h ∙ ap decimal_of (sym (e ∙ ap nat_abs (back z f)))
  where
    go : (z : ℤ) → pos 0 ≤ℤ z → signed_of z ≡ decimal_of (nat_abs z)
    go (pos n) h = refl
    go (negsuc n) h = absurd h.le

-- a size is at most 2^63
pub abs_small : (z : ℤ) → SFits w64 z → nat_abs z ≤ 2 ^ 63
abs_small (pos n) f = omega (arith, f.sfits)
abs_small (negsuc n) f = omega (arith, f.sfits)
