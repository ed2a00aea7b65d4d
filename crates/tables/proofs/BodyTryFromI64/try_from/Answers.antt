-- The body of a number is the definition's.
-- The match tells the number by its bits; a number that is none of 1 to 9 is no body.
use borrow.Author.Rules.{rules}
use native.Mathlib.Omega.{arith}
use mathlib.Core.Bool.{Bool}
use mathlib.Core.Path.{◌≡◌, sym, ap}
use Prim.Native.Nat.{ℕ, ◌^◌, ◌≤◌}
use lib.Dec.{T, ltb, ltb→lt}
use lib.IntN.{ℤ, pos, negsuc}
use mir.Syntax.{w64}
use mir.Val.{SFits, of_z}
use Rattle.integers.specs.Range.{FromTo}
use Rattle.integers.proofs.Cast.{same_bits, pos_fits}
use Rattle.integers.proofs.Difference.{zarith}
use Rattle.integers.proofs.Ranges.{is_outside}
use Rattle.tables.specs.Bodies.{body_if, body_of}
use Rattle.tables.proofs.Laws.{NoneTo, above}
use Rattle.tables.proofs.BodyTryFromI64.try_from.Goals as goal

-- what is so of k is so of the number whose bits are k
by_bits : {n : ℤ} (k : ℕ) → T (ltb k (2 ^ 63)) → SFits w64 n → of_z w64 n ≡ k → body_of (pos k) ≡ body_of n
by_bits k t f e = ap body_of (sym (same_bits f (pos_fits k (ltb→lt k (2 ^ 63) t)) e))

pub returns-in-1 : goal.returns-in-1
unfolding body_of
returns-in-1 c = by_bits 1 tt c.ranges.number (omega arith)

pub returns-in-2 : goal.returns-in-2
unfolding body_of
returns-in-2 c = by_bits 2 tt c.ranges.number (omega arith)

pub returns-in-3 : goal.returns-in-3
unfolding body_of
returns-in-3 c = by_bits 3 tt c.ranges.number (omega arith)

pub returns-in-4 : goal.returns-in-4
unfolding body_of
returns-in-4 c = by_bits 4 tt c.ranges.number (omega arith)

pub returns-in-5 : goal.returns-in-5
unfolding body_of
returns-in-5 c = by_bits 5 tt c.ranges.number (omega arith)

pub returns-in-6 : goal.returns-in-6
unfolding body_of
returns-in-6 c = by_bits 6 tt c.ranges.number (omega arith)

pub returns-in-7 : goal.returns-in-7
unfolding body_of
returns-in-7 c = by_bits 7 tt c.ranges.number (omega arith)

pub returns-in-8 : goal.returns-in-8
unfolding body_of
returns-in-8 c = by_bits 8 tt c.ranges.number (omega arith)

pub returns-in-9 : goal.returns-in-9
unfolding body_of
returns-in-9 c = by_bits 9 tt c.ranges.number (omega arith)

no_body : (n : ℤ) → NoneTo 9 n → FromTo (pos 1) (pos 9) n → ⊥
no_body (pos k) r h =
    let low : 1 ≤ k = omega (zarith, h.low) in
    let high : k ≤ 9 = omega (zarith, h.high) in
    absurd (omega (arith, above 9 k r low))
no_body (negsuc k) r h = absurd h.low.le

pub returns-in_default : goal.returns-in_default
unfolding body_of
returns-in_default c = sym (ap (λ (b : Bool). body_if b c.args.number) (is_outside (pos 1) (pos 9) c.args.number (no_body c.args.number (search rules))))
