-- `slope` is a number to divide by.
-- The product with the rise, over 100,000, is below 10^9.
use Prim.Native.Nat.{◌*◌, ◌≤◌}
use native.Mathlib.Omega.{arith}
use native.Mathlib.Nat.{mul-le-mul}
use Rattle.angles.proofs.Steps.{rise_small}
use Rattle.kepler.proofs.Equation.slope.Goals as goal
use Rattle.kepler.proofs.Equation.slope.Goals.{After-rise}

product : (c : After-rise) → c.before.before.args.self.now.es * c.rise.result ≤ 51566202 * 1745328
product c = mul-le-mul {n₂ = 51566202} {m₂ = 1745328} c.before.before.args.self.now.es_bound (rw c.rise.ensures (rise_small c.before.past_half.result))

pub overflow_mul-d : goal.overflow_mul-d
overflow_mul-d c = omega (arith, product c)

pub overflow_add-result : goal.overflow_add-result
overflow_add-result c = omega (arith, product c.before.before)

pub overflow_sub-result : goal.overflow_sub-result
overflow_sub-result c = omega (arith, product c.before.before)

pub returns-else-outer_half : goal.returns-else-outer_half
returns-else-outer_half c = omega (arith, product c.before.before)
