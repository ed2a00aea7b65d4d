-- Document 01, the listing program: what it prints for a line of input. "Any other line shows status 9", and a refused one its number.
use Rattle.std.specs.Prelude.{List, [], ◌∷◌, ◌++◌, ℕ, ℤ, pos, Option, Some, None, Err, Ok, Result}
use Rattle.refusals.specs.declared.Refusal.{Refusal}
use Rattle.refusals.specs.declared.Refusal.TheVariants.{NoRow}
use Rattle.refusals.specs.Number.{number_of}
use Rattle.dates.specs.declared.Date.TheVariants.{Minutes}
use Rattle.tables.specs.Table.{default_table}
use Rattle.places.specs.Answer.{place_answer}
use Rattle.listing_lines.specs.declared.Request.{Request}
use Rattle.listing_lines.specs.Decimal.{signed_of}
use Rattle.listing_lines.specs.Request.{request_of}
use Rattle.frames.specs.declared.Coordinates.{Coordinates}

-- numbers as text: a space between two, and a line end (10) behind the last
unfoldable pub text_of : List ℤ → List ℕ
text_of [] = []
text_of (z ∷ []) = signed_of z ++ (10 ∷ [])
text_of (z ∷ y ∷ l) = signed_of z ++ (32 ∷ text_of (y ∷ l))

-- "minute body frame status x y z", of an answer
abbrev pub refused_numbers : Refusal → List ℤ
refused_numbers r = pos 0 ∷ pos 0 ∷ pos 0 ∷ number_of r ∷ pos 0 ∷ pos 0 ∷ pos 0 ∷ []

abbrev pub numbers_of : ℤ → ℤ → Result (ℤ × Coordinates) Refusal → List ℤ
numbers_of body frame (Ok found) = let p = found.1 in found.0 ∷ body ∷ frame ∷ pos 0 ∷ p.x ∷ p.y ∷ p.z ∷ []
numbers_of body frame (Err r) = refused_numbers r

-- the answer to a request, as it is printed: the place on that minute by the table of a call that names none, or refusal 9 where the
-- line is none
abbrev pub answer_of : Option Request → List ℤ
answer_of (Some r) = numbers_of r.body r.frame (place_answer (Minutes r.minute) default_table r.body r.frame)
answer_of None = refused_numbers NoRow

-- the printed line, with its line end, of a request, and of a line of input
abbrev pub line_of : Option Request → List ℕ
line_of request = text_of (answer_of request)

abbrev pub printed_of : List ℕ → List ℕ
printed_of line = line_of (request_of line)
