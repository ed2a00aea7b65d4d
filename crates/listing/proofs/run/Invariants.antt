-- `run` feeds read after read.
-- Invariant: of what was read the lines are printed, written or ready, and what follows the last is held; each read so far gave a byte at least.
use Rattle.std.proofs.Common.{◌≡◌, ℕ, ◌≤◌, List, [], length, take}
use Rattle.std.specs.Io.KnownBytes.{Consumes}
use Rattle.listing_lines.specs.Held.{held_of}
use Rattle.listing_lines.specs.Stream.{held_after, printed_after}
use Rattle.listing.specs.Listing.{Sends}
use Rattle.listing.proofs.run.Given as goal

abbrev pub invariant-loop-turn : goal.invariant-loop-turn
invariant-loop-turn g l =
    (read : List ℕ)
    × Consumes (g.R.Read.remaining l.initial.input) (g.R.Read.remaining l.input) read
    × (held_of l.held ≡ held_after [] read)
    × Sends (g.W.Write.contents l.initial.output) (g.W.Write.contents l.output) (printed_after [] read) (take l.ready.len l.ready.bytes)
    × (l._turn ≤ length read)
