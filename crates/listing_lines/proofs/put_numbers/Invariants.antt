-- `put_numbers` leaves seven numbers, a space between two and a line end behind the last.
-- Invariant: the numbers before the next are put, each with a space behind it, in at most 21 bytes each.
use mathlib.Core.Path.{◌≡◌}
use Prim.Native.Nat.{◌+◌, ◌*◌, ◌≤◌}
use lib.ListN.{length, take}
use Rattle.listing_lines.specs.Put.{Put}
use Rattle.listing_lines.proofs.Texts.{spaced}
use Rattle.listing_lines.proofs.put_numbers.Given as goal

abbrev pub invariant-loop-n : goal.invariant-loop-n
invariant-loop-n l = Put l.at (spaced (take l.n-index l.n-items)) l.initial.bytes l.bytes l.next × (l.next ≤ l.at + 21 * l.n-index) × (length l.bytes ≡ length l.initial.bytes)
