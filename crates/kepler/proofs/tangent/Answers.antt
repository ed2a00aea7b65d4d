-- `tangent` overflows nowhere; what it gives is a guess only.
-- A quotient is at most the number divided.
use Prim.Native.Nat.{◌-◌}
use native.Mathlib.Omega.{arith}
use native.Mathlib.Nat.{div-le_self}
use Rattle.kepler.proofs.tangent.Goals as goal

pub overflow_add-result : goal.overflow_add-result
overflow_add-result c = omega (arith, div-le_self (c.before.args.target - c.before.args.f) c.before.args.slope)
