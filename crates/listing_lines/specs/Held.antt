-- The 36 bytes in which a line is held, and how many of them are.
use Rattle.std.specs.Prelude.{List, ℕ, ◌+◌, ltb, cond, take}
use Rattle.listing_lines.specs.declared.held.HeldLine.{HeldLine}

-- what is held of a line
abbrev pub held_of : HeldLine → List ℕ
held_of held = take held.len held.text

-- with one byte more: none is stored behind 36
abbrev pub one_more : ℕ → ℕ
one_more n = cond (ltb n 36) (n + 1) n
