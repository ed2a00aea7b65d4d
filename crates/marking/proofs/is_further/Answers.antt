-- `is_further` tells whether two numbers are further apart than allowed.
-- Their distance is the size of their difference, of the numbers read back.
use mathlib.Core.Path.{ap, ◌∙◌}
use lib.Dec.{ltb}
use lib.IntN.{nat_abs, ◌-ℤ◌}
use Rattle.integers.proofs.Cast.{back}
use Rattle.marking.proofs.is_further.Goals as goal

pub returns : goal.returns
returns c =
    let s = c.before in
    ap (ltb s.args.allowed) (c.distance.ensures ∙ (λ i. nat_abs (back s.args.theirs s.ranges.theirs i -ℤ back s.args.ours s.ranges.ours i)))
