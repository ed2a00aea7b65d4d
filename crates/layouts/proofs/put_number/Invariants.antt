-- `put_number` leaves the low bytes of the number, as many as were lent, the high one first.
-- Invariant: the bytes of `rest` that are still to come, before those that stand from byte i on, are the number's.
use mathlib.Core.List.{◌++◌}
use mathlib.Core.Path.{◌≡◌}
use lib.ListN.{length, drop}
use Rattle.layouts.specs.Bytes.{big_endian}
use Rattle.layouts.proofs.put_number.Given as goal

abbrev pub invariant-loop-i : goal.invariant-loop-i
invariant-loop-i l = big_endian l.i l.rest ++ drop l.i l.bytes ≡ big_endian (length l.initial.bytes) l.n
