-- `number_in` is the number in the bytes lent.
-- Invariant: what n and the bytes still to come stand for is the number; after i bytes n is below 2^(8 i), so that no product or sum
-- leaves 64 bits.
use native.Mathlib.Numerals.{add-one}
use native.Mathlib.Omega.{arith}
use lib.ListN.{drop_of_length-le}
use lib.Seq.{drop-cons}
use Rattle.layouts.specs.Bytes.{big_from}
use Rattle.layouts.proofs.Numbers.{next_small, next_fits}
use Rattle.layouts.proofs.number_in.Goals as goal

pub overflow_mul-n : goal.overflow_mul-n
overflow_mul-n c =
    let l = c.loop-byte in
    record { fits = omega (arith, next_fits l.n 0 l.byte-index l.invariant.1 (omega arith) (omega arith)) }

pub loop-byte-preserved : goal.loop-byte-preserved
unfolding big_from
loop-byte-preserved c =
    let l = c.loop-byte in
    let bytes = c.args.bytes.now in (
      rw (add-one, c.from.ensures, ← l.invariant.0, drop-cons bytes l.byte-index 0 c.loop-byte-test.true),
      next_small l.n c.from.result l.byte-index l.invariant.1 (omega arith),
    )

pub returns : goal.returns
unfolding big_from
returns c =
    let l = c.loop-byte in
    rw (← l.invariant.0, drop_of_length-le c.args.bytes.now {i = l.byte-index} c.loop-byte-test.false)
