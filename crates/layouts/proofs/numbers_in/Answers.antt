-- `numbers_in` leaves the numbers that stand in fields of the widths given.
-- Invariant: the first i numbers stand, and those of the fields from byte `at` on are the rest (Seams).
use native.Mathlib.Omega.{arith}
use lib.ListN.{length-take}
use Rattle.integers.proofs.Cast.{back_ok}
use Rattle.layouts.proofs.Seams.{narrow_at, picked_more, picked_all}
use Rattle.layouts.proofs.numbers_in.Goals as goal

pub number_in-requires : goal.number_in-requires
number_in-requires c = simp length-take (omega (arith, narrow_at c.args.widths.now c.loop-i.i c.requires.t))

pub loop-i-preserved : goal.loop-i-preserved
loop-i-preserved c =
    picked_more c.loop-i.invariant c.loop-i-test.true
    (rw (back_ok c.of_bits.result c.of_bits.type_inv, c.of_bits.ensures, c.number_in.ensures))

pub returns : goal.returns
returns c = picked_all c.loop-i.invariant c.loop-i-test.false
