-- The frame of a number is the definition's.
-- The match tells the number by its bits; a number that is none of 1 to 5 is no frame.
use borrow.Author.Rules.{rules}
use native.Mathlib.Omega.{arith}
use mathlib.Core.Bool.{Bool}
use mathlib.Core.Path.{◌≡◌, sym, ap}
use Prim.Native.Nat.{ℕ, ◌^◌, ◌≤◌}
use lib.Dec.{T, ltb, ltb→lt}
use lib.IntN.{ℤ, pos, negsuc}
use mir.Syntax.{w64}
use mir.Val.{SFits, of_z}
use Rattle.integers.specs.Range.{FromTo}
use Rattle.integers.proofs.Cast.{same_bits, pos_fits}
use Rattle.integers.proofs.Difference.{zarith}
use Rattle.integers.proofs.Ranges.{is_outside}
use Rattle.frames.specs.Frames.{frame_if, frame_of}
use Rattle.frames.proofs.FrameTryFromI64.try_from.Goals as goal

-- what is so of k is so of the number whose bits are k
by_bits : {n : ℤ} (k : ℕ) → T (ltb k (2 ^ 63)) → SFits w64 n → of_z w64 n ≡ k → frame_of (pos k) ≡ frame_of n
by_bits k t f e = ap frame_of (sym (same_bits f (pos_fits k (ltb→lt k (2 ^ 63) t)) e))

pub returns-in-1 : goal.returns-in-1
unfolding frame_of
returns-in-1 c = by_bits 1 tt c.ranges.number (omega arith)

pub returns-in-2 : goal.returns-in-2
unfolding frame_of
returns-in-2 c = by_bits 2 tt c.ranges.number (omega arith)

pub returns-in-3 : goal.returns-in-3
unfolding frame_of
returns-in-3 c = by_bits 3 tt c.ranges.number (omega arith)

pub returns-in-4 : goal.returns-in-4
unfolding frame_of
returns-in-4 c = by_bits 4 tt c.ranges.number (omega arith)

pub returns-in-5 : goal.returns-in-5
unfolding frame_of
returns-in-5 c = by_bits 5 tt c.ranges.number (omega arith)

-- a number that is none of 1 to 5
record Other (n : ℤ) : Type 0 where
  not_1 : of_z w64 n ≡ 1 → ⊥
  not_2 : of_z w64 n ≡ 2 → ⊥
  not_3 : of_z w64 n ≡ 3 → ⊥
  not_4 : of_z w64 n ≡ 4 → ⊥
  not_5 : of_z w64 n ≡ 5 → ⊥

no_frame : (n : ℤ) → Other n → FromTo (pos 1) (pos 5) n → ⊥
no_frame (pos k) o h =
    let low : 1 ≤ k = omega (zarith, h.low) in
    let high : k ≤ 5 = omega (zarith, h.high) in
    absurd (omega (arith, o.not_1, o.not_2, o.not_3, o.not_4, o.not_5))
no_frame (negsuc k) o h = absurd h.low.le

pub returns-in_default : goal.returns-in_default
unfolding frame_of
returns-in_default c = sym (ap (λ (b : Bool). frame_if b c.args.number) (is_outside (pos 1) (pos 5) c.args.number (no_frame c.args.number (search rules))))
