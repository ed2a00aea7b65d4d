-- Bytes put into others from byte `at` on: those before them and those behind them stay as they were.
use Rattle.std.specs.Prelude.{List, ◌≡◌, ℕ, ◌+◌, length}
use Rattle.integers.specs.Buffer.{replaced}

-- `new` was put at `at` into `before`, which is now `after`, and `end` is the byte behind it
pub record Put (at : ℕ) (new before after : List ℕ) (end : ℕ) : Type 0 where
  pub next : end ≡ at + length new
  pub bytes : after ≡ replaced at new before
