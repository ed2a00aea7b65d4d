-- Document 01, the listing program: all that it prints for its input, "the last line needs no line end". And the same where the
-- input comes in parts: what is held of the line that has not ended, and what is printed meanwhile.
use Rattle.std.specs.Prelude.{Bool, true, false, List, [], ◌∷◌, ◌++◌, ◌≡◌, ℕ, ◌+◌, ◌*◌, ◌≤◌, eqb, length, take, set}
use Rattle.listing_lines.specs.declared.held.HeldLine.{HeldLine}
use Rattle.listing_lines.specs.Held.{held_of, one_more}
use Rattle.listing_lines.specs.Line.{printed_of}
use Rattle.listing_lines.specs.Put.{Put}

-- only this byte ends a line
abbrev pub is_end : ℕ → Bool
is_end b = eqb b 10

-- a line that the input ends: none, where it has no byte
abbrev pub last_of : List ℕ → List ℕ
last_of [] = []
last_of (b ∷ l) = printed_of (b ∷ l)

abbrev pub printed_if : (is_end : Bool) → List ℕ → List ℕ
printed_if true line = printed_of line
printed_if false line = []

abbrev pub line_if : (is_end : Bool) → List ℕ → ℕ → List ℕ
line_if true line b = []
line_if false line b = line ++ (b ∷ [])

-- what is printed for the rest of the input, behind the line so far
unfoldable pub lines_from : List ℕ → List ℕ → List ℕ
lines_from line [] = last_of line
lines_from line (b ∷ l) = printed_if (is_end b) line ++ lines_from (line_if (is_end b) line b) l

-- "minute body frame status x y z"
abbrev pub header : List ℕ
header =
    109 ∷ 105 ∷ 110 ∷ 117 ∷ 116 ∷ 101 ∷ 32 ∷ 98 ∷ 111 ∷ 100 ∷ 121 ∷ 32 ∷ 102 ∷ 114 ∷ 97 ∷ 109 ∷ 101 ∷ 32 ∷ 115 ∷ 116 ∷ 97 ∷ 116 ∷ 117 ∷ 115 ∷ 32
    ∷ 120 ∷ 32 ∷ 121 ∷ 32 ∷ 122 ∷ 10 ∷ []

-- all that is printed for an input
unfoldable pub listing_of : List ℕ → List ℕ
listing_of input = header ++ lines_from [] input

-- ---- in parts. No request has more than 35 bytes, so of a line the first 36 are held: cut so, a longer one is no request either
abbrev pub held_if : (is_end : Bool) → List ℕ → ℕ → List ℕ
held_if true line b = []
held_if false line b = take 36 (line ++ (b ∷ []))

unfoldable pub held_after : List ℕ → List ℕ → List ℕ
held_after line [] = line
held_after line (b ∷ l) = held_after (held_if (is_end b) line b) l

unfoldable pub printed_after : List ℕ → List ℕ → List ℕ
printed_after line [] = []
printed_after line (b ∷ l) = printed_if (is_end b) line ++ printed_after (held_if (is_end b) line b) l

-- a part was printed behind a line: the lines that ended in it are put from byte `at` on into `before`, which is now `after`, in at most
-- 147 bytes for a byte of the part; `end` is the byte behind them
pub record IsPrinted (line part : List ℕ) (at : ℕ) (before after : List ℕ) (end : ℕ) : Type 0 where
  pub prints : Put at (printed_after line part) before after end
  pub within : end ≤ at + 147 * length part

-- ---- the 36 bytes in which a line is held, and how many of them are: a line end lets go of them all, and they stay as they are; any other
-- byte is stored behind those that are held, but for one behind 36, which is stored nowhere
abbrev pub count_if : (is_end : Bool) → ℕ → ℕ
count_if true n = 0
count_if false n = one_more n

abbrev pub text_if : (is_end : Bool) → ℕ → List ℕ → ℕ → List ℕ
text_if true n text b = text
text_if false n text b = set text n b

unfoldable pub count_after : ℕ → List ℕ → ℕ
count_after n [] = n
count_after n (b ∷ l) = count_after (count_if (is_end b) n) l

unfoldable pub text_after : ℕ → List ℕ → List ℕ → List ℕ
text_after n text [] = text
text_after n text (b ∷ l) = text_after (count_if (is_end b) n) (text_if (is_end b) n text b) l

-- a part was fed to what is held of a line: each of its bytes, and what is held then of the line that has not ended
pub record IsFed (before : HeldLine) (part : List ℕ) (after : HeldLine) : Type 0 where
  pub count : after.len ≡ count_after before.len part
  pub few : after.len ≤ 36
  pub text : after.text ≡ text_after before.len before.text part
  pub holds : held_of after ≡ held_after (held_of before) part
