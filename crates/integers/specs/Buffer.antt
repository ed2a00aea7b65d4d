-- Bytes in a buffer: put into others, and blocks that stand one behind the other.
use Rattle.std.specs.Prelude.{List, [], ◌++◌, ℕ, zero, suc, ◌+◌, length, take, drop}

-- new bytes from byte `at` on: those before them and those behind them stay as they were
unfoldable pub replaced : ℕ → List ℕ → List ℕ → List ℕ
replaced at new bytes = take at bytes ++ (new ++ drop (at + length new) bytes)

-- the first n blocks, the last one last
unfoldable pub blocks : (ℕ → List ℕ) → ℕ → List ℕ
blocks block zero = []
blocks block (suc n) = blocks block n ++ block n
