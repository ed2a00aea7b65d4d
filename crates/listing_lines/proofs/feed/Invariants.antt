-- `feed` prints the lines that end in a part of the input, and holds what follows the last.
-- Invariant: of the bytes read the lines are printed, in at most 147 bytes for a byte, and the rest is held.
use Rattle.std.proofs.Common.{◌≡◌, length, take}
use Rattle.listing_lines.specs.Held.{held_of}
use Rattle.listing_lines.specs.Stream.{IsFed, IsPrinted}
use Rattle.listing_lines.proofs.feed.Given as goal

abbrev pub invariant-loop-b : goal.invariant-loop-b
invariant-loop-b l =
    IsFed l.initial.held (take l.b-index l.part) l.held
    × IsPrinted (held_of l.initial.held) (take l.b-index l.part) l.at l.initial.bytes l.bytes l.next
    × (length l.bytes ≡ length l.initial.bytes)
