-- Document 01, the listing program: a line's "minute, body and frame: decimal whole numbers of at most ten digits, a minus sign allowed,
-- one space between; any other line" is none. A line is its bytes without the line end.
use Rattle.std.specs.Prelude.{Bool, true, false, ◌&&◌, List, [], ◌∷◌, ℕ, ℤ, ◌+◌, ◌-◌, ◌*◌, leb, eqb, length, take, drop, Option, Some, None}
use Rattle.integers.specs.Sign.{signed}
use Rattle.listing_lines.specs.declared.Request.{Request}

-- the bytes of `0` to `9`, of a space and of `-`
abbrev pub is_digit : ℕ → Bool
is_digit b = leb 48 b && leb b 57

abbrev pub is_space : ℕ → Bool
is_space b = eqb b 32

abbrev pub is_minus : ℕ → Bool
is_minus b = eqb b 45

-- n, where a test holds
abbrev pub digits_if : (holds : Bool) → Option ℕ → Option ℕ
digits_if true n = n
digits_if false n = None

-- the number of a digit
abbrev pub digit_of : ℕ → Option ℕ
digit_of b = digits_if (is_digit b) (Some (b - 48))

-- the number of digits that follow those of v
unfoldable pub digits_after : ℕ → List ℕ → Option ℕ
digits_after v [] = Some v
digits_after v (b ∷ l) = digits_if (is_digit b) (digits_after (v * 10 + (b - 48)) l)

-- "at most ten digits", and one at least
unfoldable pub digits_of : List ℕ → Option ℕ
digits_of l = digits_if (leb 1 (length l) && leb (length l) 10) (digits_after 0 l)

-- a number with its sign
abbrev pub with_sign : (negative : Bool) → Option ℕ → Option ℤ
with_sign negative (Some n) = Some (signed negative n)
with_sign negative None = None

abbrev pub number_if : (is_minus : Bool) → Option ℤ → Option ℤ → Option ℤ
number_if true a b = a
number_if false a b = b

-- "decimal whole numbers .., a minus sign allowed"
unfoldable pub whole_of : List ℕ → Option ℤ
whole_of [] = None
whole_of (b ∷ l) = number_if (is_minus b) (with_sign true (digits_of l)) (with_sign false (digits_of (b ∷ l)))

-- how many bytes stand before the first space: all of them, where there is none
abbrev pub before_if : (is_space : Bool) → ℕ → ℕ
before_if true n = 0
before_if false n = n + 1

unfoldable pub space_at : List ℕ → ℕ
space_at [] = 0
space_at (b ∷ l) = before_if (is_space b) (space_at l)

-- the bytes before the first space, and those after it: none, where there is no space
abbrev pub field_of : List ℕ → List ℕ
field_of l = take (space_at l) l

abbrev pub rest_of : List ℕ → List ℕ
rest_of l = drop (space_at l + 1) l

abbrev pub asked_of : Option ℤ → Option ℤ → Option ℤ → Option Request
asked_of (Some minute) (Some body) (Some frame) = Some (record { minute = minute; body = body; frame = frame })
asked_of (Some minute) (Some body) None = None
asked_of (Some minute) None frame = None
asked_of None body frame = None

-- "minute, body and frame, .. one space between": a second space between two numbers, or one behind the last, is in no number, and
-- a number that is missing is no digits
unfoldable pub request_of : List ℕ → Option Request
request_of l = asked_of (whole_of (field_of l)) (whole_of (field_of (rest_of l))) (whole_of (rest_of (rest_of l)))
