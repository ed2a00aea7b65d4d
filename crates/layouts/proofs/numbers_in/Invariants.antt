-- `numbers_in` leaves the numbers that stand in fields of the widths given.
-- Invariant: the first i numbers stand, and those of the fields from byte `at` on are the rest (Seams).
use Rattle.layouts.proofs.Seams.{Picked}
use Rattle.layouts.proofs.numbers_in.Given as goal

abbrev pub invariant-loop-i : goal.invariant-loop-i
invariant-loop-i l = Picked l.widths l.bytes l.i l.at l.numbers
