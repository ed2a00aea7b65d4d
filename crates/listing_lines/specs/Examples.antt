-- Document 01's checked example of the listing, "it prints exactly", and requests at the edges of the form, by computation.
use Rattle.std.specs.Prelude.{List, [], ◌∷◌, ◌≡◌, refl, ℕ, pos, negsuc, Some, None}
use Rattle.dates.specs.Moment.{tested, moment_at}
use Rattle.tables.specs.Table.{interval_of, moment_after}
use Rattle.listing_lines.specs.Request.{digits_after, digits_of, whole_of, space_at, request_of}
use Rattle.listing_lines.specs.Decimal.{decimal_from, decimal_of}
use Rattle.listing_lines.specs.Line.{text_of}
use Rattle.listing_lines.specs.Stream.{lines_from, listing_of}

abbrev pub four_lines : List ℕ
four_lines =
    -- `26298001 4 1`
    50 ∷ 54 ∷ 50 ∷ 57 ∷ 56 ∷ 48 ∷ 48 ∷ 49 ∷ 32 ∷ 52 ∷ 32 ∷ 49 ∷ 10
    -- `0 10 1`
    ∷ 48 ∷ 32 ∷ 49 ∷ 48 ∷ 32 ∷ 49 ∷ 10
    -- `0 4 6`
    ∷ 48 ∷ 32 ∷ 52 ∷ 32 ∷ 54 ∷ 10
    -- `0 four 1`
    ∷ 48 ∷ 32 ∷ 102 ∷ 111 ∷ 117 ∷ 114 ∷ 32 ∷ 49 ∷ 10
    ∷ []

abbrev pub five_printed : List ℕ
five_printed =
    -- `minute body frame status x y z`
    109 ∷ 105 ∷ 110 ∷ 117 ∷ 116 ∷ 101 ∷ 32 ∷ 98 ∷ 111 ∷ 100 ∷ 121 ∷ 32 ∷ 102 ∷ 114 ∷ 97 ∷ 109 ∷ 101 ∷ 32 ∷ 115 ∷ 116 ∷ 97 ∷ 116 ∷ 117 ∷ 115 ∷ 32 ∷ 120 ∷ 32 ∷ 121 ∷ 32 ∷ 122 ∷ 10
    -- `0 0 0 2 0 0 0`
    ∷ 48 ∷ 32 ∷ 48 ∷ 32 ∷ 48 ∷ 32 ∷ 50 ∷ 32 ∷ 48 ∷ 32 ∷ 48 ∷ 32 ∷ 48 ∷ 10
    -- `0 0 0 3 0 0 0`
    ∷ 48 ∷ 32 ∷ 48 ∷ 32 ∷ 48 ∷ 32 ∷ 51 ∷ 32 ∷ 48 ∷ 32 ∷ 48 ∷ 32 ∷ 48 ∷ 10
    -- `0 0 0 4 0 0 0`
    ∷ 48 ∷ 32 ∷ 48 ∷ 32 ∷ 48 ∷ 32 ∷ 52 ∷ 32 ∷ 48 ∷ 32 ∷ 48 ∷ 32 ∷ 48 ∷ 10
    -- `0 0 0 9 0 0 0`
    ∷ 48 ∷ 32 ∷ 48 ∷ 32 ∷ 48 ∷ 32 ∷ 57 ∷ 32 ∷ 48 ∷ 32 ∷ 48 ∷ 32 ∷ 48 ∷ 10
    ∷ []

pub it_prints_exactly : listing_of four_lines ≡ five_printed
unfolding listing_of lines_from text_of decimal_of decimal_from request_of whole_of digits_of digits_after space_at moment_after interval_of moment_at tested
it_prints_exactly = refl

-- `-0 0000000003 01`
pub zeros_and_a_minus : request_of (45 ∷ 48 ∷ 32 ∷ 48 ∷ 48 ∷ 48 ∷ 48 ∷ 48 ∷ 48 ∷ 48 ∷ 48 ∷ 48 ∷ 51 ∷ 32 ∷ 48 ∷ 49 ∷ []) ≡ Some (record { minute = pos 0; body = pos 3; frame = pos 1 })
unfolding request_of whole_of digits_of digits_after space_at
zeros_and_a_minus = refl

-- `-9999999999 -1 5`
pub ten_digits : request_of (45 ∷ 57 ∷ 57 ∷ 57 ∷ 57 ∷ 57 ∷ 57 ∷ 57 ∷ 57 ∷ 57 ∷ 57 ∷ 32 ∷ 45 ∷ 49 ∷ 32 ∷ 53 ∷ []) ≡ Some (record { minute = negsuc 9999999998; body = negsuc 0; frame = pos 5 })
unfolding request_of whole_of digits_of digits_after space_at
ten_digits = refl

-- `00000000000 4 1`
pub eleven_digits : request_of (48 ∷ 48 ∷ 48 ∷ 48 ∷ 48 ∷ 48 ∷ 48 ∷ 48 ∷ 48 ∷ 48 ∷ 48 ∷ 32 ∷ 52 ∷ 32 ∷ 49 ∷ []) ≡ None
unfolding request_of whole_of digits_of digits_after space_at
eleven_digits = refl

-- `0  4 1`
pub two_spaces : request_of (48 ∷ 32 ∷ 32 ∷ 52 ∷ 32 ∷ 49 ∷ []) ≡ None
unfolding request_of whole_of digits_of digits_after space_at
two_spaces = refl

-- `0 4 1` with a space behind it
pub a_space_behind : request_of (48 ∷ 32 ∷ 52 ∷ 32 ∷ 49 ∷ 32 ∷ []) ≡ None
unfolding request_of whole_of digits_of digits_after space_at
a_space_behind = refl

-- `0 4`
pub two_numbers : request_of (48 ∷ 32 ∷ 52 ∷ []) ≡ None
unfolding request_of whole_of digits_of digits_after space_at
two_numbers = refl

-- `+1 4 1`
pub a_plus_sign : request_of (43 ∷ 49 ∷ 32 ∷ 52 ∷ 32 ∷ 49 ∷ []) ≡ None
unfolding request_of whole_of digits_of digits_after space_at
a_plus_sign = refl
