-- `put_number` leaves the low bytes of the number, as many as were lent, the high one first.
-- Invariant: the bytes of `rest` that are still to come, before those that stand from byte i on, are the number's.
use mathlib.Core.Path.{◌≡◌, ◌∙◌}
use native.Mathlib.Omega.{arith}
use Rattle.layouts.specs.Bytes.{big_endian}
use Rattle.layouts.proofs.Numbers.{next_byte}
use Rattle.layouts.proofs.put_number.Goals as goal

pub loop-i-preserved : goal.loop-i-preserved
loop-i-preserved c = let l = c.loop-i in next_byte l.bytes l.rest l.i (omega arith) (omega arith) ∙ l.invariant

pub returns : goal.returns
unfolding big_endian
returns c =
    let l = c.loop-i in
    let e : l.i ≡ 0 = omega arith in
    rw e at l.invariant
