-- `raised` is F at a grid point, raised.
-- By the half of the turn; the product with the sine is at most 51,566,202·10^9, so that nothing overflows.
use Prim.Native.Nat.{◌*◌, ◌≤◌}
use native.Mathlib.Omega.{arith}
use Rattle.kepler.proofs.Climb.{half_fits, raised_low, raised_right}
use Rattle.kepler.proofs.Equation.raised.Goals as goal
use Rattle.kepler.proofs.Equation.raised.Goals.{After-half_sine}

product : (c : After-half_sine) → c.before.before.args.self.now.es * c.half_sine.result ≤ 51566202000000000
product c = rw c.half_sine.ensures (half_fits c.before.before.args.self.now.es c.before.past_half.result c.before.before.args.self.now.es_bound)

pub overflow_mul-p : goal.overflow_mul-p
overflow_mul-p c = omega (arith, product c)

pub overflow_add-result : goal.overflow_add-result
overflow_add-result c = omega (arith, product c.before)

pub overflow_sub-result : goal.overflow_sub-result
overflow_sub-result c = omega (arith, product c.before)

pub returns-then-n-le180000000 : goal.returns-then-n-le180000000
returns-then-n-le180000000 c =
    let h = c.before in
    rw (h.half_sine.ensures, h.before.past_half.ensures.value c.if-n-le180000000.true) (raised_low h.before.before.args.self.now.es h.before.before.args.n c.if-n-le180000000.true)

pub returns-else-n-le180000000 : goal.returns-else-n-le180000000
returns-else-n-le180000000 c =
    let h = c.before in
    rw (h.half_sine.ensures, h.before.past_half.ensures.value_2 c.if-n-le180000000.false) (raised_right h.before.before.args.self.now.es h.before.before.args.n (omega arith))
