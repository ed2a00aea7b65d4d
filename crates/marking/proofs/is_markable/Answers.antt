-- `is_markable` is the definition's test of a count and an allowance.
-- Two tests of a range, of the numbers read back.
use mathlib.Core.Bool.{◌&&◌}
use mathlib.Core.Path.{ap, ◌∙◌}
use lib.IntN.{pos}
use Rattle.integers.specs.Range.{is_from_to}
use Rattle.integers.proofs.Cast.{back}
use Rattle.marking.specs.Mark.{is_markable}
use Rattle.marking.proofs.is_markable.Goals as goal

pub returns : goal.returns
unfolding is_markable
returns c =
    let first = c.before in
    let s = first.before in
    let p = first.is_from_to.ensures ∙ ap (is_from_to (pos 0) (pos 400)) (back s.args.count s.ranges.count) in
    let q = c.is_from_to-2.ensures ∙ ap (is_from_to (pos 0) (pos 1000000)) (back s.args.allowed s.ranges.allowed) in
    λ i. p i && q i
