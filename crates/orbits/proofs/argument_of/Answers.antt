-- `argument_of` is step 2's argument of perihelion.
-- By what the two methods ensure, one after the other.
use mathlib.Core.Path.{ap, ◌∙◌}
use Rattle.angles.specs.Unit.{in_millionths}
use Rattle.orbits.proofs.argument_of.Goals as goal

pub returns : goal.returns
returns c = c.to_angle.ensures ∙ ap in_millionths c.before.difference.ensures
