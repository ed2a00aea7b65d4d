-- `angle_at` is the angle at a grid point: 180,000,000 less.
-- By the numbers with bounds of `integers`; the difference of two naturals is `angle_at` by computation.
use lib.IntN.{pos}
use mir.Syntax.{w64}
use mir.Val.{to_z}
use Rattle.integers.proofs.Number.{Num, of_unsigned, lit, sub, sub_fits}
use Rattle.kepler.proofs.angle_at.Goals as goal
use Rattle.kepler.proofs.angle_at.Goals.{Start}

n : (c : Start) → Num (to_z w64 c.args.n) (pos c.args.n) 360000000
n c = of_unsigned c.requires tt

pub overflow_sub-result : goal.overflow_sub-result
overflow_sub-result c = sub_fits (n c) (lit (pos 180000000)) tt

pub returns : goal.returns
returns c = (sub (n c) (lit (pos 180000000)) tt).is
