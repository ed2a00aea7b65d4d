-- `is_step` is the definition's test of a step.
-- The callee's test, of the number read back.
use mathlib.Core.Path.{ap, ◌∙◌}
use lib.IntN.{pos}
use Rattle.integers.specs.Range.{is_from_to}
use Rattle.integers.proofs.Cast.{back}
use Rattle.dates.specs.Moment.{is_step}
use Rattle.dates.proofs.is_step.Goals as goal

pub returns : goal.returns
unfolding is_step
returns c = c.is_from_to.ensures ∙ ap (is_from_to (pos 1) (pos 1000000)) (back c.before.args.step c.before.ranges.step)
