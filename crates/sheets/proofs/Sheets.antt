-- What a row call or a sheet writes are rows: a reader takes each, with exactly the fields of its date's answer, and of status 0 to 4; in a sheet
-- each stands by itself, and the number answered is that of the status-0 rows. An answer's fields are a row's; the rest goes block by block.
use borrow.Author.Tests.{le-leb}
use mathlib.Core.Bool.{true, false, ◌&&◌}
use mathlib.Core.List.{List, ◌++◌, append_assoc}
use mathlib.Core.Logic.{◌⊎◌, inl, inr}
use mathlib.Core.Path.{◌≡◌, refl, sym, ap, ◌∙◌}
use Prim.Native.Nat.{ℕ, zero, suc, ◌+◌, ◌*◌, ◌≤◌, ◌<◌}
use native.Mathlib.Omega.{arith}
use lib.Dec.{T}
use lib.IntN.{ℤ, pos, nat_abs, ◌+ℤ◌, ◌*ℤ◌}
use lib.ListN.{length, take, drop, take-append-drop}
use mir.Facts.{yes_and}
use mir.Syntax.{w64}
use mir.Val.{SFits}
use Rattle.std.specs.Prelude.{⊤, Result, Err, None, Ok, Some}
use Rattle.integers.proofs.Number.{w_fits, w_lit}
use Rattle.integers.proofs.Table.{yes, or_left, or_right, le_split}
use Rattle.integers.specs.Range.{FromTo, is_from_to}
use Rattle.integers.specs.Buffer.{blocks}
use Rattle.integers.proofs.Ranges.{to_test, of_test, range_more, range_least}
use Rattle.integers.proofs.Blocks.{blocks_long, block_in_place, filled_long}
use Rattle.refusals.specs.declared.Refusal.{Refusal}
use Rattle.refusals.proofs.Numbers.{number_is}
use Rattle.refusals.specs.Number.{number_of}
use Rattle.dates.specs.declared.Date.{Date}
use Rattle.dates.specs.declared.Date.TheVariants.{Minutes}
use Rattle.dates.specs.Minute.{minute_of}
use Rattle.dates.specs.Moment.{covers}
use Rattle.tables.specs.Table.{is_body, interval_of}
use Rattle.tables.proofs.Laws.{after_minute, after_not_finite}
use Rattle.frames.specs.declared.Coordinates.{Coordinates}
use Rattle.places.specs.Answer.{place_on, place_after, place_answer}
use Rattle.places.proofs.Answers.{IsRefused, first_four, eleven, found_is, refused_is, found_exact}
use Rattle.rows.specs.Fields.{row_size, row_table, bare_row, row_bytes, is_frame1, is_good, is_refused, is_row, refused_bytes, status_at}
use Rattle.rows.specs.Answer.{read_of, written_if, written}
use Rattle.rows.proofs.Taken.{Counts}
use Rattle.rows.proofs.RoundTrip.{a_refused_row_is_a_row_of_zeros, reading_gives_what_was_written, the_status_of_row, the_status_of_refused_row}
use Rattle.sheets.specs.Row.{row_for, bytes_for, row_written}
use Rattle.sheets.specs.Sheet.{answer_at, bytes_at, rows_of, good_of, is_sheet, sheet_written, sheet_good, good_in, one_for, one_if}
use Rattle.sheets.proofs.Laws.{bytes_long, row_by, sheet_by}

-- ---- a row's table is one that there is, so that 11 does not stand in a row
one_of_four : (r : Refusal) → IsRefused row_table r → FromTo (pos 1) (pos 4) (number_of r)
one_of_four r (first_four h) = h
one_of_four r (eleven e n) = absurd (n (of_test (pos 1) (pos 2) row_table tt))

-- ---- an answer's fields are a row's
module _ (date : Date) (offset body frame : ℤ) where
  is_row_lem : (answer : Result (ℤ × Coordinates) Refusal) → place_after date row_table offset body frame ≡ answer → T (is_row (row_for body frame answer))
  unfolding is_row is_good is_refused
  is_row_lem (Ok (m, p)) e =
      let f = found_is date row_table offset body frame m p e in
      let known = yes_and (is_body body) (is_frame1 frame) (to_test (pos 1) (pos 9) body f.known_body) (to_test (pos 1) (pos 5) frame f.known_frame) in
      or_left (is_body body && is_frame1 frame && covers (interval_of row_table) m) false
      (yes_and (is_body body && is_frame1 frame) (covers (interval_of row_table) m) known (to_test (interval_of row_table).first (interval_of row_table).last m f.on_table.covered))
  is_row_lem (Err r) e =
      or_right (is_good (bare_row (number_of r))) (is_from_to (pos 1) (pos 4) (number_of r) && true)
      (yes_and (is_from_to (pos 1) (pos 4) (number_of r)) true (to_test (pos 1) (pos 4) (number_of r) (one_of_four r (refused_is date row_table offset body frame r e))) tt)

  counts : (answer : Result (ℤ × Coordinates) Refusal) → place_after date row_table offset body frame ≡ answer → Counts (row_for body frame answer)
  counts (Ok (m, p)) e = let f = found_exact date row_table offset body frame m p e in record { x = w_fits f.x_exact tt; y = w_fits f.y_exact tt; z = w_fits f.z_exact tt }
  counts (Err r) e = let z : SFits w64 (pos 0) = w_fits (w_lit (pos 0)) tt in record { x = z; y = z; z = z }

  laid_out : (answer : Result (ℤ × Coordinates) Refusal) → bytes_for body frame answer ≡ row_bytes (row_for body frame answer)
  laid_out (Ok (m, p)) = refl
  laid_out (Err r) = sym (a_refused_row_is_a_row_of_zeros (number_of r))

  -- whatever date, body, frame and offset: a reader takes the bytes, with exactly those fields, whatever follows them
  pub a_written_row_is_a_row : (rest : List ℕ) → read_of (bytes_for body frame (place_after date row_table offset body frame) ++ rest) ≡ Ok (row_for body frame (place_after date row_table offset body frame))
  a_written_row_is_a_row rest =
      let a = place_after date row_table offset body frame in
      ap (λ (b : List ℕ). read_of (b ++ rest)) (laid_out a) ∙ reading_gives_what_was_written (row_for body frame a) (counts a refl) (is_row_lem a refl) rest

  -- and a writer of those fields leaves the same bytes: the round trip holds for every written row
  pub a_written_row_goes_round : (before : List ℕ) → row_size ≤ length before → written (row_for body frame (place_after date row_table offset body frame)) before ≡ (Ok tt, bytes_for body frame (place_after date row_table offset body frame) ++ drop row_size before)
  unfolding written
  a_written_row_goes_round before h =
      let a = place_after date row_table offset body frame in
      (λ i. written_if (le-leb row_size (length before) h i) (yes (is_row (row_for body frame a)) (is_row_lem a refl) i) (row_for body frame a) before)
      ∙ ap (λ (b : List ℕ). (Ok tt, b ++ drop row_size before)) (sym (laid_out a))

  -- only statuses 0 to 4 ever stand in one
  pub a_written_status_is_0_to_4 : FromTo (pos 0) (pos 4) (row_for body frame (place_after date row_table offset body frame)).status
  a_written_status_is_0_to_4 = go (place_after date row_table offset body frame) refl
    where
      go : (answer : Result (ℤ × Coordinates) Refusal) → place_after date row_table offset body frame ≡ answer → FromTo (pos 0) (pos 4) (row_for body frame answer).status
      go (Ok (m, p)) e = of_test (pos 0) (pos 4) (pos 0) tt
      go (Err r) e = range_more (one_of_four r (refused_is date row_table offset body frame r e)) tt tt

-- the row that a row call leaves
pub a_row_call_leaves_a_row : (date : Date) (body frame : ℤ) (before : List ℕ) → row_size ≤ length before → read_of (row_written date body frame before).1 ≡ Ok (row_for body frame (place_answer date row_table body frame))
a_row_call_leaves_a_row date body frame before h =
    ap (λ (w : Result ⊤ Refusal × List ℕ). read_of w.1) (row_by date body frame before h) ∙ a_written_row_is_a_row date (pos 0) body frame (drop row_size before)

-- ---- the good rows of a sheet are those of status 0
not_one : (k : ℕ) → 1 ≤ k → one_for k ≡ 0
not_one zero l = absurd (omega arith)
not_one (suc k) l = refl

one_most : (answer : Result (ℤ × Coordinates) Refusal) → one_if answer ≤ 1
one_most (Ok found) = omega arith
one_most (Err r) = omega arith

-- row n stands after n rows, and its status says whether it is good
one_more : (body frame : ℤ) (done : List ℕ) (n : ℕ) (answer : Result (ℤ × Coordinates) Refusal) (rest : List ℕ) → length done ≡ row_size * n → one_for (status_at (done ++ (bytes_for body frame answer ++ rest)) n) ≡ one_if answer
one_more body frame done n (Ok (m, p)) rest h = ap one_for (the_status_of_row done n (row_for body frame (Ok (m, p))) rest h (of_test (pos 0) (pos 255) (pos 0) tt))
one_more body frame done n (Err r) rest h = ap one_for (the_status_of_refused_row done n r rest h) ∙ not_one (nat_abs (number_of r)) (range_least 1 (number_of r) (number_is r))

module _ (start : Date) (step body frame : ℤ) where
  sized : (k : ℕ) → length (bytes_at start step body frame k) ≡ row_size
  sized k = bytes_long body frame (answer_at start step body frame k)

  counted : (n : ℕ) (rest : List ℕ) → good_of start step body frame n ≡ good_in (rows_of start step body frame n ++ rest) n
  unfolding good_of good_in blocks
  counted zero rest = refl
  counted (suc n) rest =
      let rows = rows_of start step body frame n in
      let row = bytes_at start step body frame n in
      (λ i. counted n (row ++ rest) i + sym (one_more body frame rows n (answer_at start step body frame n) rest (blocks_long row_size (bytes_at start step body frame) sized n)) i)
      ∙ ap (λ (b : List ℕ). good_in b n + one_for (status_at b n)) (sym (append_assoc rows row rest))

  -- a row whose place was found; where as many rows are good as there are, each is such a one
  pub record FoundAt (k : ℕ) : Type 0 where
    pub minute : ℤ
    pub place : Coordinates
    pub is : answer_at start step body frame k ≡ Ok (minute, place)

  good_most : (n : ℕ) → good_of start step body frame n ≤ n
  unfolding good_of
  good_most zero = omega arith
  good_most (suc n) = omega (arith, good_most n, one_most (answer_at start step body frame n))

  pub every_row_is_found : (n : ℕ) → good_of start step body frame n ≡ n → (k : ℕ) → k < n → FoundAt k
  unfolding good_of
  every_row_is_found zero e k l = absurd (omega arith)
  every_row_is_found (suc n) e k l = go (answer_at start step body frame n) refl (le_split k n l) (λ l. every_row_is_found n (omega (arith, e, good_most n, one_most (answer_at start step body frame n))) k l)
    where
      go : (answer : Result (ℤ × Coordinates) Refusal) → answer_at start step body frame n ≡ answer → (k ≡ n) ⊎ (k < n) → (k < n → FoundAt k) → FoundAt k
      go answer a (inr l) earlier = earlier l
      go (Ok (m, p)) a (inl i) earlier = record { minute = m; place = p; is = ap (answer_at start step body frame) i ∙ a }
      go (Err r) a (inl i) earlier = absurd (omega (arith, e, good_most n, ap one_if a))

-- ---- a sheet that is not refused: `after` is what it leaves
module _ (start : Date) (step count body frame : ℤ) (before : List ℕ) (is : is_sheet step count ≡ true) (room : row_size * nat_abs count ≤ length before) where
  abbrev after : List ℕ
  after = (sheet_written start step count body frame before).1

  rows_are : after ≡ rows_of start step body frame (nat_abs count) ++ drop (row_size * nat_abs count) before
  rows_are = ap (λ (w : Result ℕ Refusal × List ℕ). w.1) (sheet_by start step body frame count before is room)

  pub a_sheet_keeps_the_length : length after ≡ length before
  a_sheet_keeps_the_length = ap length rows_are ∙ filled_long row_size (bytes_at start step body frame) (sized start step body frame) (nat_abs count) before room

  -- row k is that of its own answer, and a reader takes it
  pub row_k_stands_by_itself : (k : ℕ) → k < nat_abs count → take row_size (drop (row_size * k) after) ≡ bytes_at start step body frame k
  row_k_stands_by_itself k h =
      ap (λ (b : List ℕ). take row_size (drop (row_size * k) b)) rows_are
      ∙ block_in_place row_size (bytes_at start step body frame) (sized start step body frame) (nat_abs count) k (drop (row_size * nat_abs count) before) h

  pub row_k_is_read : (k : ℕ) → k < nat_abs count → read_of (drop (row_size * k) after) ≡ Ok (row_for body frame (answer_at start step body frame k))
  row_k_is_read k h =
      ap read_of (sym (take-append-drop row_size (drop (row_size * k) after)) ∙ ap (λ (b : List ℕ). b ++ drop row_size (drop (row_size * k) after)) (row_k_stands_by_itself k h))
      ∙ a_written_row_is_a_row start (step *ℤ pos k) body frame (drop row_size (drop (row_size * k) after))

  -- "start, start + step, and so on, sums taken exactly": the row that a row call leaves for that minute
  pub row_k_is_that_of_its_own_date : (m : ℤ) (k : ℕ) → minute_of start ≡ Some m → k < nat_abs count → take row_size (drop (row_size * k) after) ≡ bytes_for body frame (place_answer (Minutes (m +ℤ step *ℤ pos k)) row_table body frame)
  row_k_is_that_of_its_own_date m k e h =
      row_k_stands_by_itself k h ∙ ap (λ (o : Result ℤ Refusal). bytes_for body frame (place_on o row_table body frame)) (after_minute start row_table (step *ℤ pos k) m e)

  -- "with a start that is not finite every row has status 1"
  pub every_row_has_status_1 : (k : ℕ) → minute_of start ≡ None → k < nat_abs count → take row_size (drop (row_size * k) after) ≡ refused_bytes (pos 1)
  every_row_has_status_1 k e h =
      row_k_stands_by_itself k h ∙ ap (λ (o : Result ℤ Refusal). bytes_for body frame (place_on o row_table body frame)) (after_not_finite start row_table (step *ℤ pos k) e)

  answered_good : sheet_good (sheet_written start step count body frame before).0 ≡ good_of start step body frame (nat_abs count)
  answered_good = ap (λ (w : Result ℕ Refusal × List ℕ). sheet_good w.0) (sheet_by start step body frame count before is room)

  -- where it is the count, no row is refused
  pub no_row_is_refused : sheet_good (sheet_written start step count body frame before).0 ≡ nat_abs count → (k : ℕ) → k < nat_abs count → FoundAt start step body frame k
  no_row_is_refused e k h = every_row_is_found start step body frame (nat_abs count) (sym answered_good ∙ e) k h

  -- the number answered is that of the rows of status 0 that stand in the result
  pub good_is_counted : sheet_good (sheet_written start step count body frame before).0 ≡ good_in after (nat_abs count)
  good_is_counted =
      answered_good
      ∙ counted start step body frame (nat_abs count) (drop (row_size * nat_abs count) before)
      ∙ ap (λ (b : List ℕ). good_in b (nat_abs count)) (sym rows_are)
