-- `quarter_on` is a quarter turn on from an angle in one turn, again in one turn.
-- The result lies in one turn, so it is its own; past 90 degrees it is a whole turn less than the sum.
use mathlib.Core.Path.{◌≡◌, subst, sym, ap, ◌∙◌}
use lib.IntN.{ℤ, pos, negsuc, ◌+ℤ◌, ◌-ℤ◌, ◌*ℤ◌}
use lib.Signed.{◌≤ℤ◌, ◌<ℤ◌}
use Rattle.integers.specs.Range.{Within}
use Rattle.integers.proofs.Difference.{zarith, d_add, d_minus}
use Rattle.integers.proofs.Cast.{read}
use Rattle.integers.proofs.Number.{Num, arg, lit, add, add_fits, sub, sub_fits, less, not_less}
use Rattle.angles.specs.Unit.{one_turn}
use Rattle.angles.proofs.Turns.{one_turn_low, one_turn_high, one_turn_within, one_turn_turns, in_turn}
use Rattle.angles.proofs.quarter_on.Goals as goal
use Rattle.angles.proofs.quarter_on.Goals.{Start}

t : (c : Start) → Num (read c.args.t) c.args.t 180000000
t c = arg c.ranges.t (subst (Within 180000000) (sym c.requires) (one_turn_within c.args.t))

low : (c : Start) → negsuc 179999999 ≤ℤ c.args.t
low c = subst (λ (z : ℤ). negsuc 179999999 ≤ℤ z) (sym c.requires) (one_turn_low c.args.t)

high : (c : Start) → c.args.t <ℤ pos 180000000
high c = subst (λ (z : ℤ). z <ℤ pos 180000000) (sym c.requires) (one_turn_high c.args.t)

pub overflow_add-result : goal.overflow_add-result
overflow_add-result c = add_fits (t c.before) (lit (pos 90000000)) tt

pub overflow_sub-result : goal.overflow_sub-result
overflow_sub-result c = sub_fits (t c.before) (lit (pos 270000000)) tt

on : (z : ℤ) → negsuc 179999999 ≤ℤ z → z <ℤ pos 90000000 → z +ℤ pos 90000000 ≡ one_turn (z +ℤ pos 90000000)
on z h l = sym (in_turn (z +ℤ pos 90000000) (omega (zarith, d_add z (pos 90000000), h)) (omega (zarith, d_add z (pos 90000000), l)))

back_a_turn : (z : ℤ) → z +ℤ pos 90000000 +ℤ negsuc 0 *ℤ pos 360000000 ≡ z -ℤ pos 270000000
back_a_turn z = omega (zarith, d_add z (pos 90000000), d_add (z +ℤ pos 90000000) (negsuc 359999999), d_minus z (pos 270000000))

round : (z : ℤ) → pos 90000000 ≤ℤ z → z <ℤ pos 180000000 → z -ℤ pos 270000000 ≡ one_turn (z +ℤ pos 90000000)
round z h l =
    sym (in_turn (z -ℤ pos 270000000) (omega (zarith, d_minus z (pos 270000000), h)) (omega (zarith, d_minus z (pos 270000000), l)))
    ∙ ap one_turn (sym (back_a_turn z)) ∙ one_turn_turns (z +ℤ pos 90000000) (negsuc 0)

pub returns-then-t-lt90000000 : goal.returns-then-t-lt90000000
returns-then-t-lt90000000 c =
    let s = c.before in
    (add (t s) (lit (pos 90000000)) tt).is ∙ on s.args.t (low s) (less (t s) (lit (pos 90000000)) c.if-t-lt90000000.true)

pub returns-else-t-lt90000000 : goal.returns-else-t-lt90000000
returns-else-t-lt90000000 c =
    let s = c.before in
    (sub (t s) (lit (pos 270000000)) tt).is ∙ round s.args.t (not_less (t s) (lit (pos 90000000)) c.if-t-lt90000000.false) (high s)
