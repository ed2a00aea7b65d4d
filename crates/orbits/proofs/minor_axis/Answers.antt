-- `minor_axis` is step 4's f: the root of 10^18 - (10 e)², which is at most 10^9.
-- The difference is not negative since 10 e is at most 9·10^8; the root is what `root` ensures.
use mathlib.Core.Path.{sym, ap, ◌∙◌}
use Prim.Native.Nat.{◌-◌, ◌*◌, ◌≤◌}
use native.Mathlib.Omega.{arith}
use lib.IntN.{pos}
use Rattle.integers.proofs.Roots.{root_most}
use Rattle.integers.proofs.Number.{of_unsigned}
use Rattle.orbits.proofs.Bounds.{e_squared, minor_is}
use Rattle.orbits.proofs.minor_axis.Goals as goal
use Rattle.orbits.proofs.minor_axis.Goals.{After-root}

pub overflow_mul-e-2 : goal.overflow_mul-e-2
overflow_mul-e-2 c = omega (arith, e_squared c.args.e c.requires)

pub overflow_sub-e : goal.overflow_sub-e
overflow_sub-e c = omega (arith, e_squared c.args.e c.requires)

small : (c : After-root) → c.root.result ≤ 1000000000
small c =
    let e = c.before.args.e in
    root_most (1000000000000000000 - 100 * e * e) c.root.result 1000000000 c.root.ensures.root.square (omega arith)

pub overflow_cast-result : goal.overflow_cast-result
overflow_cast-result c = let h = small c in record { sfits = omega arith }

pub returns : goal.returns
returns c =
    (of_unsigned (small c) tt).is ∙ ap pos c.root.ensures.value ∙ sym (minor_is c.before.args.e c.before.requires)
