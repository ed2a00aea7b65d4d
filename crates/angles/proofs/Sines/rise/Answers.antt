-- `rise` is the table's step around an angle, and 0 at 90 degrees.
-- The code's test is the definition's; neighbouring entries rise, so that the difference is one of naturals.
use mathlib.Core.Path.{◌≡◌, sym, ap, ◌∙◌}
use Prim.Native.Nat.{ℕ, ◌-◌, ◌/◌}
use native.Mathlib.Omega.{arith}
use Rattle.angles.specs.Sine.{folded}
use Rattle.angles.proofs.Facts.{Near, neighbours}
use Rattle.angles.proofs.Steps.{rise_last, rise_from}
use Rattle.angles.proofs.Sines.rise.Goals as goal
use Rattle.angles.proofs.Sines.rise.Goals.{After-entry-2, After-folded}

-- the entry before the angle
entry_is : (c : After-folded) → folded c.before.args.t / 100000 ≡ c.folded.result / 100000
entry_is c = ap (λ (n : ℕ). n / 100000) (sym c.folded.ensures)

pub returns-then-k-eq900 : goal.returns-then-k-eq900
returns-then-k-eq900 c = sym (rise_last c.before.before.args.t (c.before.folded.result / 100000) (entry_is c.before) c.if-k-eq900.true)

near : (c : After-entry-2) → Near c.entry-2.result c.before.entry.result
near c = rw (c.entry-2.ensures, c.before.entry.ensures) (neighbours (c.before.before.before.folded.result / 100000) (omega arith))

pub overflow_sub-result : goal.overflow_sub-result
overflow_sub-result c = (near c).rises

pub returns : goal.returns
returns c =
    let e = c.before.before in
    let f = e.before in
    (λ i. c.before.entry.ensures i - c.entry-2.ensures i)
    ∙ sym (rise_from f.before.args.t (f.folded.result / 100000) (entry_is f) e.if-k-eq900.false)
