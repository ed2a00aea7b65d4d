-- The sines of two angles n millionths of a degree apart are at most 18 n apart, so the sine of a small angle is small and its cosine near 10^9.
-- One step at a time, by the law of a step.
use mathlib.Core.Path.{◌≡◌, refl, sym, ap, subst, ◌∙◌}
use Prim.Native.Nat.{ℕ, zero, suc, ◌+◌, ◌*◌, ◌≤◌}
use native.Mathlib.Nat.{le_refl}
use native.Mathlib.Omega.{arith}
use lib.IntN.{ℤ, pos, negsuc, nat_abs, ◌+ℤ◌, ◌-ℤ◌, +ℤ_idr}
use Rattle.integers.specs.Range.{Within}
use Rattle.integers.proofs.Difference.{zarith, d_add, d_minus}
use Rattle.integers.proofs.Ring.{abs_add_le, abs_itself}
use Rattle.integers.proofs.Ends.{abs_turned}
use Rattle.angles.specs.Unit.{one_turn}
use Rattle.angles.specs.Entry.{factorial, part, whole, term, plus_terms, minus_terms, entry}
use Rattle.angles.specs.Sine.{quarter_sine, half_sine, sine_of, cosine_of}
use Rattle.angles.proofs.Laws.{sine_step, cosine_is}

further : (n : ℕ) (t u : ℤ) → t +ℤ pos n ≡ u → nat_abs (sine_of u -ℤ sine_of t) ≤ 18 * n
further zero t u e = subst (λ (z : ℤ). nat_abs (sine_of z -ℤ sine_of t) ≤ 18 * 0) (sym (+ℤ_idr t) ∙ e) (omega (arith, abs_itself (sine_of t)))
further (suc n) t u e =
    let f : (t +ℤ pos 1) +ℤ pos n ≡ u = omega (zarith, d_add t (pos 1), d_add (t +ℤ pos 1) (pos n), d_add t (pos (suc n))) in
    let g = further n (t +ℤ pos 1) u f in
    omega (arith, between (sine_of u) (sine_of (t +ℤ pos 1)) (sine_of t), sine_step t)
  where
    between : (x y z : ℤ) → nat_abs (x -ℤ z) ≤ nat_abs (x -ℤ y) + nat_abs (y -ℤ z)
    between x y z =
        let e : (x -ℤ y) +ℤ (y -ℤ z) ≡ x -ℤ z = omega (zarith, d_minus x y, d_minus y z, d_minus x z, d_add (x -ℤ y) (y -ℤ z)) in
        rw e at (abs_add_le (x -ℤ y) (y -ℤ z) (le_refl (nat_abs (x -ℤ y))) (le_refl (nat_abs (y -ℤ z))))

-- an angle t either side of b
pub either_side : (b t : ℤ) → nat_abs (sine_of (t +ℤ b) -ℤ sine_of b) ≤ 18 * nat_abs t
either_side b (pos n) = further n b (pos n +ℤ b) (omega (zarith, d_add b (pos n), d_add (pos n) b))
either_side b (negsuc n) =
    let s = sine_of (negsuc n +ℤ b) in
    omega (arith, further (suc n) (negsuc n +ℤ b) b (omega (zarith, d_add (negsuc n) b, d_add (negsuc n +ℤ b) (pos (suc n)))), abs_turned (sine_of b) s)

sine_0 : sine_of (pos 0) ≡ pos 0
unfolding sine_of one_turn half_sine quarter_sine entry plus_terms minus_terms term whole part factorial
sine_0 = refl

cosine_0 : sine_of (pos 90000000) ≡ pos 1000000000
unfolding sine_of one_turn half_sine quarter_sine entry plus_terms minus_terms term whole part factorial
cosine_0 = refl

module _ (t : ℤ) {n : ℕ} (h : Within n t) where
  pub sine_little : Within (18 * n) (sine_of t)
  sine_little =
      let e : nat_abs (sine_of (t +ℤ pos 0) -ℤ sine_of (pos 0)) ≡ nat_abs (sine_of t) = ap nat_abs ((λ i. sine_of (+ℤ_idr t i) -ℤ sine_0 i) ∙ +ℤ_idr (sine_of t)) in
      record { within = omega (arith, e, either_side (pos 0) t, h.within) }

  pub cosine_near : nat_abs (cosine_of t -ℤ pos 1000000000) ≤ 18 * n
  cosine_near =
      let e : nat_abs (sine_of (t +ℤ pos 90000000) -ℤ sine_of (pos 90000000)) ≡ nat_abs (cosine_of t -ℤ pos 1000000000) = ap nat_abs (λ i. sym (cosine_is t) i -ℤ cosine_0 i) in
      omega (arith, e, either_side (pos 90000000) t, h.within)
