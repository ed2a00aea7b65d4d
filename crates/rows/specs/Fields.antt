-- Document 01, "Rows and sheets": a row of version 1. Its fields, which fields a reader takes, its bytes.
use Rattle.std.specs.Prelude.{Bool, ◌&&◌, ◌||◌, List, [], ◌∷◌, ◌++◌, ℕ, ◌+◌, ◌*◌, ℤ, pos, take, drop, get_or, replicate}
use Rattle.integers.specs.Range.{is_from_to}
use Rattle.integers.specs.Sign.{same}
use Rattle.dates.specs.Moment.{covers}
use Rattle.tables.specs.Table.{is_body, interval_of}
use Rattle.rows.specs.declared.Row.{Row}
use Rattle.layouts.specs.Layout.{bytes_of, are_zeros}

-- "A row is 38 bytes"
abbrev pub row_size : ℕ
row_size = 38

-- "length 36 (two bytes), version 1"
abbrev pub row_length : ℤ
row_length = pos 36

abbrev pub row_version : ℤ
row_version = pos 1

-- "length 36 (two bytes), version 1, status, body, frame, minutes (eight), x, y, z (eight each, two's complement)": the widths, and
-- a row's numbers in the same order
abbrev pub widths1 : List ℕ
widths1 = 2 ∷ 1 ∷ 1 ∷ 1 ∷ 1 ∷ 8 ∷ 8 ∷ 8 ∷ 8 ∷ []

abbrev pub row_numbers : Row → List ℤ
row_numbers row =
    row_length ∷ row_version ∷ row.status ∷ row.body ∷ row.frame ∷ row.minutes ∷ row.x ∷ row.y ∷ row.z ∷ []

-- the row of numbers in that order
abbrev pub row_from : List ℤ → Row
row_from numbers =
    record {
      status = get_or numbers 2 (pos 0);
      body = get_or numbers 3 (pos 0);
      frame = get_or numbers 4 (pos 0);
      minutes = get_or numbers 5 (pos 0);
      x = get_or numbers 6 (pos 0);
      y = get_or numbers 7 (pos 0);
      z = get_or numbers 8 (pos 0);
    }

-- a row's bytes
unfoldable pub row_bytes : Row → List ℕ
row_bytes row = bytes_of widths1 (row_numbers row)

-- a row of status 0
abbrev pub good_row : ℤ → ℤ → ℤ → ℤ → ℤ → ℤ → Row
good_row body frame minutes x y z = record { status = pos 0; body = body; frame = frame; minutes = minutes; x = x; y = y; z = z }

-- a row of nothing but its status
abbrev pub bare_row : ℤ → Row
bare_row number = record { status = number; body = pos 0; frame = pos 0; minutes = pos 0; x = pos 0; y = pos 0; z = pos 0 }

-- "a refused row has length, version, its number, and 34 zero bytes"
unfoldable pub refused_bytes : ℤ → List ℕ
refused_bytes number = bytes_of (take 3 widths1) (row_length ∷ row_version ∷ number ∷ []) ++ replicate 34 0

-- 02, Item 1: "Rows and sheets stay with table 1 for now". A row of version 1 is one of Table 1
abbrev pub row_table : ℤ
row_table = pos 1

-- "Frames": "1 HAE of J2000; 2 GEI of J2000; 3 HCI; 4 HEE; 5 HEEQ". A row of version 1 knows these five; later frames do not enter it
abbrev pub is_frame1 : ℤ → Bool
is_frame1 frame = is_from_to (pos 1) (pos 5) frame

-- "status 0 with a known body and frame and a date in the interval, any x, y, z"
unfoldable pub is_good : Row → Bool
is_good row = same row.status (pos 0) && is_body row.body && is_frame1 row.frame && covers (interval_of row_table) row.minutes

-- "or status 1 to 4 with 34 zeros": the fields after the status have those 34 bytes
unfoldable pub is_refused : Row → Bool
is_refused row = is_from_to (pos 1) (pos 4) row.status && are_zeros (drop 3 (row_numbers row))

-- what a reader takes
unfoldable pub is_row : Row → Bool
is_row row = is_good row || is_refused row

-- "length 36, version 1, and" such a row
unfoldable pub are_row : List ℤ → Bool
are_row numbers = same (get_or numbers 0 (pos 0)) row_length && same (get_or numbers 1 (pos 0)) row_version && is_row (row_from numbers)

-- the status byte of row k in a buffer of rows, k counted from 0: a length of two bytes and a version stand before it
abbrev pub status_at : List ℕ → ℕ → ℕ
status_at bytes k = get_or bytes (row_size * k + 3) 0
