-- Two's complement: the bits of a number that is not below zero are its size, and those of one below zero 2^64 less its size.
-- By the two forms of a signed number; the arithmetic that is left is omega's.
use mathlib.Core.Path.{◌≡◌, refl}
use Prim.Native.Nat.{◌-◌, ◌^◌, ◌≤◌}
use native.Mathlib.Omega.{arith}
use lib.IntN.{ℤ, pos, negsuc, nat_abs}
use lib.Signed.{◌≤ℤ◌, ◌<ℤ◌}
use mir.Syntax.{w64}
use mir.Val.{SFits, of_z}
use Rattle.integers.proofs.Difference.{lt_d}

pub bits_up : (z : ℤ) → pos 0 ≤ℤ z → nat_abs z ≡ of_z w64 z
bits_up (pos n) h = refl
bits_up (negsuc n) h = absurd h.le

pub bits_down : (z : ℤ) → SFits w64 z → z <ℤ pos 0 → (1 ≤ nat_abs z) × (nat_abs z ≤ 2 ^ 63) × (of_z w64 z ≡ 2 ^ 64 - nat_abs z)
bits_down (pos n) f h = absurd (omega (arith, lt_d (pos n) (pos 0) h))
bits_down (negsuc n) f h = (omega arith, omega (arith, f.sfits), refl)
