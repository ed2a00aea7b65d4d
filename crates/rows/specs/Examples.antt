-- Rows and bytes at the edges, each beside what it comes to, by computation on the definitions.
use Rattle.std.specs.Prelude.{List, [], ◌∷◌, ◌++◌, map, ◌≡◌, refl, ℕ, ℤ, pos, negsuc, take, replicate, Result, Ok, Err}
use Rattle.refusals.specs.declared.Refusal.{Refusal}
use Rattle.refusals.specs.declared.Refusal.TheVariants.{ShortBuffer, NoRow}
use Rattle.rows.specs.declared.Row.{Row}
use Rattle.tables.specs.Table.{interval_of}
use Rattle.layouts.specs.Bytes.{big_endian, big_from, field_bytes}
use Rattle.layouts.specs.Layout.{bytes_of, numbers_in}
use Rattle.rows.specs.Fields.{good_row, bare_row, row_bytes, refused_bytes, is_good, is_refused, is_row, are_row, status_at}
use Rattle.rows.specs.Answer.{read_of, read_row, written}
use Rattle.refusals.specs.Number.{status_of}

-- a layout of three fields: -1 has all bits set at any width, and only eight bytes say that it is below zero
pub three_fields : (bytes_of (1 ∷ 2 ∷ 8 ∷ []) (pos 7 ∷ negsuc 0 ∷ negsuc 0 ∷ []) ≡ 7 ∷ replicate 10 255) × (numbers_in (1 ∷ 2 ∷ 8 ∷ []) (7 ∷ replicate 10 255) ≡ pos 7 ∷ pos 65535 ∷ negsuc 0 ∷ [])
unfolding bytes_of numbers_in big_endian big_from
three_fields = (refl, refl)

-- Mars in HAE a minute before JD 2451545.0, with x -1, y the least number of 64 bits and z 1 au
abbrev pub mars : Row
mars = good_row (pos 4) (pos 1) (negsuc 0) (negsuc 0) (negsuc 0x7fff_ffff_ffff_ffff) (pos 10000000)

abbrev pub mars_bytes : List ℕ
mars_bytes = 0 ∷ 36 ∷ 1 ∷ 0 ∷ 4 ∷ 1 ∷ replicate 16 255 ++ 128 ∷ replicate 12 0 ++ 0x98 ∷ 0x96 ∷ 0x80 ∷ []

pub mars_in_bytes : row_bytes mars ≡ mars_bytes
unfolding row_bytes bytes_of big_endian
mars_in_bytes = refl

pub refusal_2_in_bytes : refused_bytes (pos 2) ≡ 0 ∷ 36 ∷ 1 ∷ 2 ∷ replicate 34 0
unfolding refused_bytes bytes_of big_endian
refusal_2_in_bytes = refl

-- bytes of these first six, and zeros for the eight-byte fields but for the minute
abbrev pub with_minute : List ℕ → ℤ → List ℕ
with_minute first minute = first ++ field_bytes 8 minute ++ replicate 24 0

abbrev pub readings : List (List ℕ × Result Row Refusal)
readings =
    -- a good row, also with bytes after it, but not without its last byte
    (mars_bytes, Ok mars)
    ∷ (mars_bytes ++ 7 ∷ 7 ∷ [], Ok mars)
    ∷ (take 37 mars_bytes, Err NoRow)
    ∷ ([], Err NoRow)
    -- refused rows of status 1 and 4; 5 is none; nor is one with a byte left in its zeros
    ∷ (0 ∷ 36 ∷ 1 ∷ 1 ∷ replicate 34 0, Ok (bare_row (pos 1)))
    ∷ (0 ∷ 36 ∷ 1 ∷ 4 ∷ replicate 34 0, Ok (bare_row (pos 4)))
    ∷ (0 ∷ 36 ∷ 1 ∷ 5 ∷ replicate 34 0, Err NoRow)
    ∷ (0 ∷ 36 ∷ 1 ∷ 2 ∷ replicate 33 0 ++ 7 ∷ [], Err NoRow)
    ∷ (0 ∷ 36 ∷ 1 ∷ 2 ∷ 4 ∷ replicate 33 0, Err NoRow)
    -- length 38, version 2, and the bytes of the length turned
    ∷ (with_minute (0 ∷ 38 ∷ 1 ∷ 0 ∷ 4 ∷ 1 ∷ []) (pos 0), Err NoRow)
    ∷ (with_minute (0 ∷ 36 ∷ 2 ∷ 0 ∷ 4 ∷ 1 ∷ []) (pos 0), Err NoRow)
    ∷ (with_minute (36 ∷ 0 ∷ 1 ∷ 0 ∷ 4 ∷ 1 ∷ []) (pos 0), Err NoRow)
    -- bodies and frames at the ends of their ranges
    ∷ (with_minute (0 ∷ 36 ∷ 1 ∷ 0 ∷ 9 ∷ 5 ∷ []) (pos 0), Ok (good_row (pos 9) (pos 5) (pos 0) (pos 0) (pos 0) (pos 0)))
    ∷ (with_minute (0 ∷ 36 ∷ 1 ∷ 0 ∷ 10 ∷ 5 ∷ []) (pos 0), Err NoRow)
    ∷ (with_minute (0 ∷ 36 ∷ 1 ∷ 0 ∷ 0 ∷ 5 ∷ []) (pos 0), Err NoRow)
    ∷ (with_minute (0 ∷ 36 ∷ 1 ∷ 0 ∷ 9 ∷ 6 ∷ []) (pos 0), Err NoRow)
    ∷ (with_minute (0 ∷ 36 ∷ 1 ∷ 0 ∷ 9 ∷ 0 ∷ []) (pos 0), Err NoRow)
    -- the interval's two ends
    ∷ (with_minute (0 ∷ 36 ∷ 1 ∷ 0 ∷ 1 ∷ 1 ∷ []) (pos 26298000), Ok (good_row (pos 1) (pos 1) (pos 26298000) (pos 0) (pos 0) (pos 0)))
    ∷ (with_minute (0 ∷ 36 ∷ 1 ∷ 0 ∷ 1 ∷ 1 ∷ []) (pos 26298001), Err NoRow)
    ∷ (with_minute (0 ∷ 36 ∷ 1 ∷ 0 ∷ 1 ∷ 1 ∷ []) (negsuc 105189839), Ok (good_row (pos 1) (pos 1) (negsuc 105189839) (pos 0) (pos 0) (pos 0)))
    ∷ (with_minute (0 ∷ 36 ∷ 1 ∷ 0 ∷ 1 ∷ 1 ∷ []) (negsuc 105189840), Err NoRow)
    ∷ []

pub readings_are : map (λ (e : List ℕ × Result Row Refusal). read_of e.0) readings ≡ map (λ (e : List ℕ × Result Row Refusal). e.1) readings
unfolding read_of are_row is_row is_good is_refused interval_of numbers_in big_from big_endian
readings_are = refl

-- a slice that is no row has document 01's number 9, and zeros
pub nothing_read : (status_of (read_of []) ≡ pos 9) × (read_row (read_of []) ≡ bare_row (pos 0))
unfolding read_of
nothing_read = (refl, refl)

-- 38 bytes are overwritten, and the next stays; 37 are too few, whatever the fields are; fields that are none come second
pub writings : (written mars (replicate 39 7) ≡ (Ok tt, mars_bytes ++ 7 ∷ [])) × (written (bare_row (pos 0)) (replicate 37 7) ≡ (Err ShortBuffer, replicate 37 7)) × (written (bare_row (pos 0)) (replicate 38 7) ≡ (Err NoRow, replicate 38 7))
unfolding written row_bytes is_row is_good is_refused interval_of bytes_of big_endian
writings = (refl, refl, refl)

-- the status bytes of two rows
pub two_rows : (status_at (row_bytes mars ++ refused_bytes (pos 3)) 0 ≡ 0) × (status_at (row_bytes mars ++ refused_bytes (pos 3)) 1 ≡ 3)
unfolding row_bytes refused_bytes bytes_of big_endian
two_rows = (refl, refl)
