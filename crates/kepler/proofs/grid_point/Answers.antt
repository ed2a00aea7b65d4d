-- `grid_point` is the grid point of an angle within half a turn either way: 180,000,000 more, which is not negative.
-- By the numbers with bounds of `integers` and the law `point_is`.
use mathlib.Core.Path.{ap}
use lib.IntN.{pos, nat_abs, ◌+ℤ◌}
use Rattle.integers.proofs.Difference.{zarith}
use Rattle.integers.proofs.Cast.{read}
use Rattle.integers.proofs.Number.{Num, arg, lit, add, add_fits, also, cast_num}
use Rattle.angles.proofs.Turns.{within_turn}
use Rattle.kepler.specs.Search.{point_of}
use Rattle.kepler.proofs.Grid.{point_is}
use Rattle.kepler.proofs.grid_point.Goals as goal
use Rattle.kepler.proofs.grid_point.Goals.{Start}

m : (c : Start) → Num (read c.args.m) c.args.m 180000000
m c = arg c.ranges.m (within_turn c.args.m c.requires.low c.requires.high)

more : (c : Start) → Num (read (read c.args.m +ℤ pos 180000000)) (pos (point_of c.args.m)) 360000000
more c = also (add (m c) (lit (pos 180000000)) tt) (point_is c.args.m c.requires)

pub overflow_add-result : goal.overflow_add-result
overflow_add-result c = add_fits (m c) (lit (pos 180000000)) tt

pub overflow_cast-result : goal.overflow_cast-result
overflow_cast-result c = cast_num (more c) (omega zarith) tt

pub returns : goal.returns
returns c = ap nat_abs (more c).is
