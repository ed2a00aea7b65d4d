-- `put_numbers` leaves the numbers' bytes in fields of the widths given, and every byte after them as it was.
-- Invariant: i fields stand in the first `at` bytes, and what is still to come has its room (Seams).
use Rattle.layouts.proofs.Seams.{Laid}
use Rattle.layouts.proofs.put_numbers.Given as goal

abbrev pub invariant-loop-i : goal.invariant-loop-i
invariant-loop-i l = Laid l.widths l.numbers l.initial.bytes l.i l.at l.bytes
