-- `is_search` is the definition's test of a step and a count.
-- The tests of a step and of a range, of the numbers read back.
use mathlib.Core.Bool.{◌&&◌}
use mathlib.Core.Path.{ap, ◌∙◌}
use lib.IntN.{pos}
use Rattle.integers.specs.Range.{is_from_to}
use Rattle.integers.proofs.Cast.{back}
use Rattle.dates.specs.Moment.{is_step}
use Rattle.viewing.specs.Viewing.{is_search}
use Rattle.viewing.proofs.is_search.Goals as goal

pub returns : goal.returns
unfolding is_search
returns c =
    let s = c.before.before in
    let p = c.before.is_step.ensures ∙ ap is_step (back s.args.step s.ranges.step) in
    let q = c.is_from_to.ensures ∙ ap (is_from_to (pos 1) (pos 4000)) (back s.args.count s.ranges.count) in
    λ i. p i && q i
