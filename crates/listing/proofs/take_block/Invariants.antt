-- `take_block` feeds a block part by part.
-- Invariant: of the bytes that were fed the lines are printed, written or ready, and what follows the last is held.
-- A part has at most 256 bytes and prints at most 147 for each, which fits behind the 27,904 that `make_room` leaves.
use Rattle.std.proofs.Common.{◌≡◌, ℕ, List, ◌++◌, take}
use Rattle.std.specs.Slice.Iter.{chunks_rest, chunks_size}
use Rattle.listing_lines.specs.Held.{held_of}
use Rattle.listing_lines.specs.Stream.{held_after, printed_after}
use Rattle.listing.specs.Listing.{Sends}
use Rattle.listing.proofs.take_block.Given as goal

abbrev pub invariant-loop-part : goal.invariant-loop-part
invariant-loop-part g l =
    (chunks_size l.part-iterator ≡ 256)
    × (done : List ℕ)
    × (l.block ≡ done ++ chunks_rest l.part-iterator)
    × (held_of l.held ≡ held_after (held_of l.initial.held) done)
    × Sends (g.W.Write.contents l.initial.output) (g.W.Write.contents l.output) (take l.initial.ready.len l.initial.ready.bytes ++ printed_after (held_of l.initial.held) done) (take l.ready.len l.ready.bytes)
