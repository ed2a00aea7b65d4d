-- `quarter_sine` is the sine within the first quarter: on the line between two entries, or the last entry at 90 degrees.
-- Neighbouring entries rise by at most 1,745,328, so that nothing overflows.
use mathlib.Core.Path.{◌≡◌, ◌∙◌}
use Prim.Native.Nat.{ℕ, ◌+◌, ◌-◌, ◌*◌, ◌/◌, ◌%◌, ◌≤◌}
use native.Mathlib.Nat.{mul-zero, mul-le-mul}
use native.Mathlib.Omega.{arith}
use Rattle.angles.specs.Entry.{entry}
use Rattle.angles.specs.Sine.{quarter_sine}
use Rattle.angles.proofs.Facts.{Near, neighbours}
use Rattle.angles.proofs.Steps.{at_most}
use Rattle.angles.proofs.Sines.quarter_sine.Goals as goal
use Rattle.angles.proofs.Sines.quarter_sine.Goals.{After-entry-high}

-- at 90 degrees nothing is left past the last entry
last : (t : ℕ) → t ≤ 90000000 → t / 100000 ≡ 900 → entry 900 ≡ quarter_sine t
unfolding quarter_sine
last t h e =
    let er : t % 100000 ≡ 0 = omega arith in
    let z = mul-zero (entry (900 + 1) - entry 900) in
    rw (e, er, z) (omega arith)

pub returns-then-k-eq900 : goal.returns-then-k-eq900
returns-then-k-eq900 c = c.entry.ensures ∙ last c.before.before.args.t c.before.before.requires c.before.if-k-eq900.true

near : (c : After-entry-high) → Near c.before.entry-low.result c.entry-high.result
near c =
    rw (c.before.entry-low.ensures, c.entry-high.ensures)
    (neighbours (c.before.before.before.args.t / 100000) (omega arith))

pub overflow_sub-result : goal.overflow_sub-result
overflow_sub-result c = (near c).rises

pub overflow_mul-result : goal.overflow_mul-result
overflow_mul-result c =
    let n = near c in
    let m : (c.entry-high.result - c.before.entry-low.result) * (c.before.before.before.args.t % 100000) ≤ 1745328 * 100000 = mul-le-mul {n₂ = 1745328} {m₂ = 100000} (omega arith) (omega arith) in
    omega arith

pub overflow_add-result : goal.overflow_add-result
overflow_add-result c =
    let n = near c in
    let m = at_most c.before.entry-low.result c.entry-high.result (c.before.before.before.args.t % 100000) (omega arith) n in
    omega arith

pub returns : goal.returns
unfolding quarter_sine
returns c = rw (c.before.entry-low.ensures, c.entry-high.ensures)
