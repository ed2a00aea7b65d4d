-- `sine` is the sine of any angle over the lent table: brought to one turn, then the sine there.
-- By what the two calls ensure.
use borrow.Author.Rules.{rules}
use mathlib.Core.Path.{◌≡◌, subst, sym, ap, ◌∙◌}
use lib.IntN.{ℤ, nat_abs}
use Rattle.integers.specs.Range.{Within}
use Rattle.integers.proofs.Cast.{read, back_ok}
use Rattle.angles.specs.Unit.{one_turn}
use Rattle.angles.specs.Sine.{half_sine, with_sign_of, sine_of}
use Rattle.angles.proofs.Turns.{one_turn_within}
use Rattle.angles.proofs.Sines.sine.Goals as goal
use Rattle.angles.proofs.Sines.sine.Goals.{After-within_turn, Start}

angle_is : (c : Start) → read c.args.angle.0 ≡ c.args.angle.0
angle_is c = search rules

turned : (c : After-within_turn) → read c.within_turn.result ≡ one_turn c.before.before.args.angle.0
turned c = back_ok c.within_turn.result c.within_turn.type_inv ∙ c.within_turn.ensures ∙ ap one_turn (angle_is c.before.before)

pub turn_sine-requires : goal.turn_sine-requires
turn_sine-requires c =
    subst (Within 180000000) (sym (turned c)) (one_turn_within c.before.before.args.angle.0)

pub returns : goal.returns
unfolding sine_of
returns c =
    back_ok c.turn_sine.result c.turn_sine.type_inv ∙ c.turn_sine.ensures
    ∙ ap (λ (z : ℤ). with_sign_of z (half_sine (nat_abs z))) (turned c.before)
