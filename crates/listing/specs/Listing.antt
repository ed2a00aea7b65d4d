-- What the program reads and writes, of a reader's and a writer's bytes where those are known.
use Rattle.std.specs.Prelude.{◌≡◌, ℕ, ◌<◌, Bool, true, false, List, ◌++◌, length, Option}
use Rattle.std.specs.Io.KnownBytes.{Appends, Consumes, IsAtEnd}
use Rattle.listing_lines.specs.Stream.{held_after, printed_after}

-- of bytes that were ready the first are written, in their order, and the others are ready still
pub record Sends (before after : Option (List ℕ)) (ready left : List ℕ) : Type 0 where
  pub sent : List ℕ
  pub written : Appends before after sent
  pub all : ready ≡ sent ++ left

-- a read: its bytes were fed to the line that is held, and what they print is ready behind what was, or written. It gave bytes where more
-- may come, and none where the input has ended
pub record IsTurn (input rest before after : Option (List ℕ)) (line held ready left : List ℕ) (more : Bool) : Type 0 where
  pub block : List ℕ
  pub read : Consumes input rest block
  pub holds : held ≡ held_after line block
  pub sends : Sends before after (ready ++ printed_after line block) left
  pub some : more ≡ true → 0 < length block
  pub end : more ≡ false → IsAtEnd rest
