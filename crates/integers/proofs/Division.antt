-- The machine's division of a by d above 0: what it needs, and its quotient and rest as numbers, toward zero.
-- The operands are read back (Cast), and the quotient and the rest fit since a does (Floor).
use mathlib.Core.Path.{◌≡◌, subst, sym, ◌∙◌}
use native.Mathlib.Omega.{arith}
use mathlib.Core.Bool.{true, false}
use Prim.Native.Nat.{ℕ, zero, suc, ◌<◌}
use lib.IntN.{ℤ, pos, nat_abs, ◌+ℤ◌, ◌-ℤ◌}
use lib.Signed.{lt_z, quot_z, rem_z, mag_rem, ◌≤ℤ◌, ◌<ℤ◌}
use mir.Syntax.{w64}
use mir.Val.{SFits, of_z}
use mir.ValLaws.{sfits_le}
use Rattle.integers.specs.Floor.{floor_div, floor_mod}
use Rattle.integers.proofs.Difference.{zarith, eq_d}
use Rattle.integers.proofs.Floor.{floor_fits, mod_low, mod_high, pos_abs, abs_pos, bits_pos, quot_fits, floor_by_pos, floor_by_neg}
use Rattle.integers.proofs.Cast.{read, back, val₂}

-- what the floor leaves fits, since d does
rest_fits : (a : ℤ) (m : ℕ) → 0 < m → SFits w64 (pos m) → SFits w64 (floor_mod a m)
rest_fits a zero p f = absurd (omega arith)
rest_fits a (suc m) p f = omega (zarith, mod_low a m, mod_high a m)

module _ (a d : ℤ) (fa : SFits w64 a) (fd : SFits w64 d) (pd : pos 0 <ℤ d) where
  pub read_divisor : read d ≡ pos (nat_abs d)
  read_divisor = back d fd ∙ sym (pos_abs d pd)

  pub div_need : (0 < of_z w64 d) × SFits w64 (quot_z (read a) (read d))
  div_need = (bits_pos d pd, rw (back a fa, read_divisor) (quot_fits a (nat_abs d) fa))

  pub quotient : read (quot_z (read a) (read d)) ≡ quot_z a (pos (nat_abs d))
  quotient = rw (back a fa, read_divisor) (back _ (quot_fits a (nat_abs d) fa))

  pub rest : read (rem_z (read a) (read d)) ≡ rem_z a (pos (nat_abs d))
  rest = rw (back a fa, read_divisor) (back _ (sfits_le (mag_rem a (pos (nat_abs d))) fa))

  -- the two ways that a rest can fall
  pub below : lt_z (read (rem_z (read a) (read d))) (pos 0) ≡ true → rem_z a (pos (nat_abs d)) <ℤ pos 0
  below t = omega (zarith, eq_d _ _ rest)

  pub not_below : lt_z (read (rem_z (read a) (read d))) (pos 0) ≡ false → pos 0 ≤ℤ rem_z a (pos (nat_abs d))
  not_below t = omega (zarith, eq_d _ _ rest)

  -- the floor and its rest, by the way of the rest
  pub floor_below : lt_z (read (rem_z (read a) (read d))) (pos 0) ≡ true → (quot_z a (pos (nat_abs d)) -ℤ pos 1 ≡ floor_div a (nat_abs d)) × (rem_z a (pos (nat_abs d)) +ℤ pos (nat_abs d) ≡ floor_mod a (nat_abs d))
  floor_below t = floor_by_neg a (nat_abs d) (abs_pos d pd) (below t)

  pub floor_not_below : lt_z (read (rem_z (read a) (read d))) (pos 0) ≡ false → (quot_z a (pos (nat_abs d)) ≡ floor_div a (nat_abs d)) × (rem_z a (pos (nat_abs d)) ≡ floor_mod a (nat_abs d))
  floor_not_below t = floor_by_pos a (nat_abs d) (abs_pos d pd) (not_below t)

  -- the floor and its rest as the machine comes to them, which fit
  div_fits : lt_z (read (rem_z (read a) (read d))) (pos 0) ≡ true → SFits w64 (quot_z a (pos (nat_abs d)) -ℤ pos 1)
  div_fits t = subst (SFits w64) (sym (floor_below t).0) (floor_fits a (nat_abs d) fa)

  mod_fits : lt_z (read (rem_z (read a) (read d))) (pos 0) ≡ true → SFits w64 (rem_z a (pos (nat_abs d)) +ℤ pos (nat_abs d))
  mod_fits t = subst (SFits w64) (sym (floor_below t).1) (rest_fits a (nat_abs d) (abs_pos d pd) (rw (pos_abs d pd) fd))

  pub div_below : lt_z (read (rem_z (read a) (read d))) (pos 0) ≡ true → read (read (quot_z (read a) (read d)) -ℤ pos 1) ≡ floor_div a (nat_abs d)
  div_below t = val₂ ◌-ℤ◌ quotient (λ i. pos 1) (div_fits t) ∙ (floor_below t).0

  pub div_not_below : lt_z (read (rem_z (read a) (read d))) (pos 0) ≡ false → read (quot_z (read a) (read d)) ≡ floor_div a (nat_abs d)
  div_not_below t = quotient ∙ (floor_not_below t).0

  pub mod_below : lt_z (read (rem_z (read a) (read d))) (pos 0) ≡ true → read (read (rem_z (read a) (read d)) +ℤ read d) ≡ floor_mod a (nat_abs d)
  mod_below t = val₂ ◌+ℤ◌ rest read_divisor (mod_fits t) ∙ (floor_below t).1

  pub mod_not_below : lt_z (read (rem_z (read a) (read d))) (pos 0) ≡ false → read (rem_z (read a) (read d)) ≡ floor_mod a (nat_abs d)
  mod_not_below t = rest ∙ (floor_not_below t).1
