-- `cosine` is the cosine of any angle over the lent table: brought to one turn, a quarter turn on, then the sine there.
-- The turn may be taken before the quarter is added (`one_turn_sum`).
use borrow.Author.Rules.{rules}
use mathlib.Core.Path.{◌≡◌, subst, sym, ap, ◌∙◌}
use lib.IntN.{ℤ, pos, nat_abs, ◌+ℤ◌}
use Rattle.integers.specs.Range.{Within}
use Rattle.integers.proofs.Cast.{read, back_ok}
use Rattle.angles.specs.Unit.{one_turn}
use Rattle.angles.specs.Sine.{half_sine, with_sign_of, sine_of, cosine_of}
use Rattle.angles.proofs.Turns.{one_turn_within, one_turn_again, one_turn_sum}
use Rattle.angles.proofs.Sines.cosine.Goals as goal
use Rattle.angles.proofs.Sines.cosine.Goals.{After-quarter_on, After-within_turn, Start}

angle_is : (c : Start) → read c.args.angle.0 ≡ c.args.angle.0
angle_is c = search rules

turned : (c : After-within_turn) → read c.within_turn.result ≡ one_turn c.before.before.args.angle.0
turned c = back_ok c.within_turn.result c.within_turn.type_inv ∙ c.within_turn.ensures ∙ ap one_turn (angle_is c.before.before)

pub quarter_on-requires : goal.quarter_on-requires
quarter_on-requires c =
    subst (λ (z : ℤ). z ≡ one_turn z) (sym (turned c)) (sym (one_turn_again c.before.before.args.angle.0))

on : (c : After-quarter_on) → read c.quarter_on.result ≡ one_turn (c.before.before.before.args.angle.0 +ℤ pos 90000000)
on c =
    back_ok c.quarter_on.result c.quarter_on.type_inv ∙ c.quarter_on.ensures
    ∙ ap (λ (z : ℤ). one_turn (z +ℤ pos 90000000)) (turned c.before) ∙ one_turn_sum c.before.before.before.args.angle.0 90000000

pub turn_sine-requires : goal.turn_sine-requires
turn_sine-requires c =
    subst (Within 180000000) (sym (on c)) (one_turn_within (c.before.before.before.args.angle.0 +ℤ pos 90000000))

pub returns : goal.returns
unfolding cosine_of sine_of
returns c =
    back_ok c.turn_sine.result c.turn_sine.type_inv ∙ c.turn_sine.ensures
    ∙ ap (λ (z : ℤ). with_sign_of z (half_sine (nat_abs z))) (on c.before)
