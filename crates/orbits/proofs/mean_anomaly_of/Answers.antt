-- `mean_anomaly_of` is step 2's M: the longitudes' difference and what is added to it, in element counts, divided by 100 with floor, in one turn.
-- By what the four methods ensure, one after the other.
use mathlib.Core.Path.{subst, sym, ap, ◌∙◌}
use lib.IntN.{ℤ, ◌+ℤ◌}
use Rattle.integers.specs.Range.{Within}
use Rattle.integers.proofs.Number.{w_sub, w_more}
use Rattle.angles.specs.Unit.{hundred_millionths, in_millionths, one_turn}
use Rattle.orbits.proofs.mean_anomaly_of.Goals as goal

pub difference-plain-requires : goal.difference-plain-requires
difference-plain-requires c = let f = c.before.before.requires.elements_fit in record { within = w_more f.longitude tt; within_2 = w_more f.perihelion tt }

pub sum-requires : goal.sum-requires
sum-requires c =
    let f = c.before.before.before.requires in
    record { within = subst (Within 4000000000000000000) (sym c.difference-plain.ensures) (w_more (w_sub f.elements_fit.longitude f.elements_fit.perihelion) tt); within_2 = w_more f.within tt }

pub returns : goal.returns
returns c =
    let t = c.before in
    let u = t.before in
    c.one_turn.ensures
    ∙ ap one_turn (t.to_angle.ensures ∙ ap in_millionths (u.sum.ensures ∙ ap (λ (z : ℤ). z +ℤ hundred_millionths u.before.before.before.before.args.extra) u.before.difference-plain.ensures))
