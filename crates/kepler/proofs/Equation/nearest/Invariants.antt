-- `nearest` finds the grid point at which F is nearest to the target.
-- The loop keeps f lo ≤ target < f hi with the values at both ends; wherever the guess falls inside, the gap shrinks, and two
-- neighbours are left, of which the nearer is the answer.
use Prim.Native.Nat.{◌-◌}
use Rattle.kepler.specs.Search.{raised}
use Rattle.kepler.proofs.Rising.{Kept}
use Rattle.kepler.proofs.Equation.nearest.Given as goal

abbrev pub invariant-loop-hi : goal.invariant-loop-hi
invariant-loop-hi l = Kept (raised l.self.es) 360000000 l.target l.lo l.hi l.low l.high

abbrev pub decreases-loop-hi : goal.decreases-loop-hi
decreases-loop-hi l = l.hi - l.lo
