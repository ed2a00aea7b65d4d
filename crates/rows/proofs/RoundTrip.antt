-- A row's bytes: what they are, that reading gives back what was written, and that writing gives back what was read.
-- The laws for any layout (Layouts), at the layout of version 1, whose fields hold their numbers (Taken).
use borrow.Author.Tests.{le-leb, lt-leb}
use mathlib.Core.Bool.{Bool, true, false, ◌&&◌}
use mathlib.Core.List.{List, ◌++◌}
use mathlib.Core.Path.{◌≡◌, refl, sym, ap, subst, ◌∙◌}
use Prim.Native.Nat.{ℕ, ◌*◌, ◌≤◌, ◌<◌}
use native.Mathlib.Omega.{arith}
use lib.Dec.{T, leb, leb→le}
use lib.IntN.{ℤ, pos, nat_abs}
use lib.ListN.{length, take, drop, get_or, length-append}
use lib.Pow.{are_bytes}
use lib.Seq.{get_or-append-add}
use mir.Facts.{and_yes}
use Rattle.std.specs.Prelude.{Ok, Err}
use Rattle.integers.specs.Range.{FromTo}
use Rattle.integers.specs.Sign.{same}
use Rattle.integers.proofs.Same.{same_eq}
use Rattle.integers.proofs.Table.{yes}
use Rattle.refusals.specs.declared.Refusal.{Refusal}
use Rattle.refusals.specs.declared.Refusal.TheVariants.{ShortBuffer, NoRow}
use Rattle.refusals.specs.Number.{number_of}
use Rattle.refusals.proofs.Numbers.{number_is}
use Rattle.rows.specs.declared.Row.{Row}
use Rattle.layouts.specs.Bytes.{big_endian}
use Rattle.layouts.specs.Layout.{bytes_of, numbers_in}
use Rattle.rows.specs.Fields.{row_size, row_length, row_version, widths1, row_numbers, row_from, bare_row, row_bytes, refused_bytes, is_row, are_row, status_at}
use Rattle.rows.specs.Answer.{found_if, read_of, written_if, written}
use Rattle.layouts.proofs.Layouts.{numbers_back, bytes_back}
use Rattle.rows.proofs.Taken.{Counts, row_held, byte_is}

-- ---- a row's bytes, and a refused row's
pub a_row_has_its_size : (row : Row) → length (row_bytes row) ≡ row_size
unfolding row_bytes bytes_of big_endian
a_row_has_its_size row = refl

pub a_refused_row_is_a_row_of_zeros : (n : ℤ) → row_bytes (bare_row n) ≡ refused_bytes n
unfolding row_bytes refused_bytes bytes_of big_endian
a_refused_row_is_a_row_of_zeros n = refl

pub a_refused_row_has_its_size : (n : ℤ) → length (refused_bytes n) ≡ row_size
a_refused_row_has_its_size n = ap length (sym (a_refused_row_is_a_row_of_zeros n)) ∙ a_row_has_its_size (bare_row n)

-- ---- reading gives back what was written
module _ (row : Row) (counts : Counts row) (is : T (is_row row)) where
  numbers_are : (rest : List ℕ) → numbers_in widths1 (row_bytes row ++ rest) ≡ row_numbers row
  unfolding row_bytes
  numbers_are rest = numbers_back (row_held row counts is) rest

  -- whatever follows
  pub reading_gives_what_was_written : (rest : List ℕ) → read_of (row_bytes row ++ rest) ≡ Ok row
  unfolding read_of are_row
  reading_gives_what_was_written rest =
      let room = le-leb row_size (length (row_bytes row ++ rest)) (rw length-append (omega (arith, a_row_has_its_size row))) in
      simp (room, numbers_are rest) (ap (λ (b : Bool). found_if b row) (yes (is_row row) is))

  pub a_written_row_is_read : (before : List ℕ) → row_size ≤ length before → read_of (written row before).1 ≡ Ok row
  unfolding written
  a_written_row_is_read before h = simp (le-leb row_size (length before) h, yes (is_row row) is, reading_gives_what_was_written)

-- ---- writing gives back what was read
found_is : (b : Bool) (row r : Row) → found_if b row ≡ Ok r → T b × (row ≡ r)
found_is true row r e = (tt, cc)
found_is false row r e = let z : ◌≡◌ {A = ℕ} 0 1 = cc in absurd (omega arith)

module _ (bytes : List ℕ) (row : Row) (found : read_of bytes ≡ Ok row) where
  abbrev numbers : List ℤ
  numbers = numbers_in widths1 bytes

  tests : T (leb row_size (length bytes) && are_row numbers) × (row_from numbers ≡ row)
  unfolding read_of
  tests = found_is (leb row_size (length bytes) && are_row numbers) (row_from numbers) row found

  both : T (leb row_size (length bytes)) × T (are_row numbers)
  both = and_yes (leb row_size (length bytes)) (are_row numbers) tests.0

  headed : (get_or numbers 0 (pos 0) ≡ row_length) × (get_or numbers 1 (pos 0) ≡ row_version) × T (is_row (row_from numbers))
  unfolding are_row
  headed =
      let first = get_or numbers 0 (pos 0) in
      let second = get_or numbers 1 (pos 0) in
      let c = and_yes (same first row_length && same second row_version) (is_row (row_from numbers)) both.1 in
      let b = and_yes (same first row_length) (same second row_version) c.0 in
      (same_eq first row_length b.0, same_eq second row_version b.1, c.1)

  pub what_is_read_is_a_row : T (is_row row)
  what_is_read_is_a_row = subst (λ (r : Row). T (is_row r)) tests.1 headed.2

  pub what_is_read_has_its_size : row_size ≤ length bytes
  what_is_read_has_its_size = leb→le row_size (length bytes) both.0

  pub its_bytes_are_those_read : T (are_bytes bytes) → row_bytes row ≡ take row_size bytes
  unfolding row_bytes numbers_in
  its_bytes_are_those_read t =
      rw (← tests.1, ← headed.0, ← headed.1) (bytes_back widths1 bytes t tt what_is_read_has_its_size)

  -- into any bytes with room
  pub writing_gives_what_was_read : T (are_bytes bytes) → (before : List ℕ) → row_size ≤ length before → written row before ≡ (Ok tt, take row_size bytes ++ drop row_size before)
  unfolding written
  writing_gives_what_was_read t before h = simp (le-leb row_size (length before) h, yes (is_row row) what_is_read_is_a_row, its_bytes_are_those_read t)

-- ---- refusals
-- a reader's is 9
pub a_reader_refuses_by_9 : (bytes : List ℕ) (refusal : Refusal) → read_of bytes ≡ Err refusal → refusal ≡ NoRow
unfolding read_of
a_reader_refuses_by_9 bytes refusal e = go (leb row_size (length bytes) && are_row (numbers_in widths1 bytes)) e
  where
    go : (b : Bool) → found_if b (row_from (numbers_in widths1 bytes)) ≡ Err refusal → refusal ≡ NoRow
    go true e = let z : ◌≡◌ {A = ℕ} 0 1 = cc in absurd (omega arith)
    go false e = cc

-- 8 comes before 9
pub a_short_buffer_comes_first : (row : Row) (before : List ℕ) → length before < row_size → written row before ≡ (Err ShortBuffer, before)
unfolding written
a_short_buffer_comes_first row before h = simp (lt-leb row_size (length before) h)

pub a_refused_writer_touches_nothing : (row : Row) (before : List ℕ) (refusal : Refusal) → (written row before).0 ≡ Err refusal → (written row before).1 ≡ before
unfolding written
a_refused_writer_touches_nothing row before refusal e = go (leb row_size (length before)) (is_row row) e
  where
    go : (room is : Bool) → (written_if room is row before).0 ≡ Err refusal → (written_if room is row before).1 ≡ before
    go false is e = refl
    go true false e = refl
    go true true e = let z : ◌≡◌ {A = ℕ} 0 1 = cc in absurd (omega arith)

-- ---- the status bytes of a buffer of rows
pub the_status_of_row : {a : ℕ} (done : List ℕ) (k : ℕ) (row : Row) (rest : List ℕ) → length done ≡ row_size * k → FromTo (pos a) (pos 255) row.status → status_at (done ++ (row_bytes row ++ rest)) k ≡ nat_abs row.status
unfolding row_bytes bytes_of big_endian
the_status_of_row done k row rest h s =
    rw (← h, get_or-append-add done (row_bytes row ++ rest) 3 0) (byte_is row.status (omega arith) s)

pub the_status_of_refused_row : (done : List ℕ) (k : ℕ) (refusal : Refusal) (rest : List ℕ) → length done ≡ row_size * k → status_at (done ++ (refused_bytes (number_of refusal) ++ rest)) k ≡ nat_abs (number_of refusal)
the_status_of_refused_row done k refusal rest h =
    rw (← a_refused_row_is_a_row_of_zeros (number_of refusal)) (the_status_of_row done k (bare_row (number_of refusal)) rest h (number_is refusal))
