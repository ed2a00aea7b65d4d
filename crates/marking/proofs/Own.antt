-- "With difference 0, "good" means equal to our own rows", the bytes that our row call leaves without a refusal; of a sheet that our sheet call wrote only
-- refused rows are wrong, at any allowance. A coordinate that is 0 off is ours, and a place once found is found again by its minute.
use mathlib.Core.Bool.{true}
use mathlib.Core.List.{List, ◌++◌}
use mathlib.Core.Path.{◌≡◌, refl, sym, ap, ◌∙◌}
use Prim.Native.Nat.{ℕ, suc, ◌*◌, ◌≤◌, ◌<◌}
use native.Mathlib.Omega.{arith}
use lib.Dec.{T}
use lib.IntN.{ℤ, pos, nat_abs, ◌*ℤ◌}
use lib.ListN.{length, take, drop, take-append-drop}
use lib.Pow.{are_bytes}
use Rattle.std.specs.Prelude.{⊤, Some, None, Result, Ok, Err}
use Rattle.integers.proofs.Ring.{abs_itself, abs_none}
use Rattle.refusals.specs.declared.Refusal.{Refusal}
use Rattle.refusals.specs.Number.{number_of, status_of}
use Rattle.refusals.proofs.Numbers.{number_not_0}
use Rattle.dates.specs.declared.Date.{Date}
use Rattle.dates.specs.declared.Date.TheVariants.{Minutes}
use Rattle.layouts.proofs.Layouts.{bytes_parts}
use Rattle.frames.specs.declared.Coordinates.{Coordinates}
use Rattle.places.specs.Answer.{place_after, place_answer}
use Rattle.places.proofs.Answers.{found_again}
use Rattle.rows.specs.declared.Row.{Row}
use Rattle.rows.specs.Fields.{row_size, row_table, good_row, bare_row, row_bytes}
use Rattle.rows.specs.Answer.{read_of}
use Rattle.rows.proofs.RoundTrip.{what_is_read_is_a_row, what_is_read_has_its_size, its_bytes_are_those_read}
use Rattle.rows.proofs.Taken.{good_is, good_by_status, refused_by_status}
use Rattle.sheets.specs.Row.{row_for, row_told, answer_written, row_written}
use Rattle.sheets.specs.Sheet.{answer_at, is_sheet, sheet_written, sheet_good}
use Rattle.sheets.proofs.Laws.{row_by}
use Rattle.sheets.proofs.Sheets.{a_row_call_leaves_a_row, a_sheet_keeps_the_length, row_k_is_read, FoundAt, no_row_is_refused}
use Rattle.marking.specs.Mark.{mark_answer}
use Rattle.marking.proofs.Laws.{Markable}
use Rattle.marking.proofs.Rows.{RightRow, WrongRow, refused_one}
use Rattle.marking.proofs.Marks.{Marked, good_says_that_every_row_is_right, good_where_every_row_is_right, the_first_wrong_row_is_named}

-- ---- bytes that read as the row of an answer of ours: right at any allowance where a place was found, else wrong
module _ (allowed : ℕ) (date : Date) (offset body frame : ℤ) (bytes : List ℕ) (read : read_of bytes ≡ Ok (row_for body frame (place_after date row_table offset body frame))) where
  a_found_answer_is_right : (m : ℤ) (p : Coordinates) → place_after date row_table offset body frame ≡ Ok (m, p) → RightRow allowed bytes
  a_found_answer_is_right m p e =
      let row = good_row body frame m p.x p.y p.z in
      let taken : read_of bytes ≡ Ok row = read ∙ ap (λ (a : Result (ℤ × Coordinates) Refusal). Ok (row_for body frame a)) e in
      record {
        row = row;
        read = taken;
        good = good_by_status row (what_is_read_is_a_row bytes row taken) refl;
        ours = p;
        place = found_again date row_table offset body frame m p e;
        near = record { x_near = omega (arith, abs_itself p.x); y_near = omega (arith, abs_itself p.y); z_near = omega (arith, abs_itself p.z) };
      }

  a_refused_answer_is_wrong : (r : Refusal) → place_after date row_table offset body frame ≡ Err r → WrongRow allowed bytes
  a_refused_answer_is_wrong r e =
      let row = bare_row (number_of r) in
      let taken : read_of bytes ≡ Ok row = read ∙ ap (λ (a : Result (ℤ × Coordinates) Refusal). Ok (row_for body frame a)) e in
      refused_one row taken (refused_by_status row (what_is_read_is_a_row bytes row taken) (number_not_0 r))

-- ---- what a row call of ours leaves without a refusal is right at any allowance
pub what_a_row_call_leaves_is_right : (allowed : ℕ) (date : Date) (body frame : ℤ) (before after : List ℕ) → row_size ≤ length before → row_written date body frame before ≡ (Ok tt, after) → RightRow allowed after
what_a_row_call_leaves_is_right allowed date body frame before after h e = go (place_answer date row_table body frame) refl
  where
    written : answer_written body frame (place_answer date row_table body frame) before ≡ (Ok tt, after)
    written = sym (row_by date body frame before h) ∙ e

    read : read_of after ≡ Ok (row_for body frame (place_answer date row_table body frame))
    read = ap (λ (w : Result ⊤ Refusal × List ℕ). read_of w.1) (sym e) ∙ a_row_call_leaves_a_row date body frame before h

    go : (a : Result (ℤ × Coordinates) Refusal) → place_answer date row_table body frame ≡ a → RightRow allowed after
    go (Ok (m, p)) f = a_found_answer_is_right allowed date (pos 0) body frame after read m p f
    go (Err r) f = absurd (number_not_0 r (ap status_of (ap row_told (sym f) ∙ ap (λ (w : Result ⊤ Refusal × List ℕ). w.0) written)))

-- ---- "equal to our own rows": our row call for the row's own body, frame and minute tells of no refusal and leaves the row's bytes
pub record OurOwn (bytes : List ℕ) : Type 0 where
  pub row : Row
  pub read : read_of bytes ≡ Ok row
  pub left : (before : List ℕ) → row_size ≤ length before → row_written (Minutes row.minutes) row.body row.frame before ≡ (Ok tt, take row_size bytes ++ drop row_size before)

right_is_our_own : (bytes : List ℕ) → T (are_bytes bytes) → RightRow 0 bytes → OurOwn bytes
right_is_our_own bytes t r = record { row = row; read = r.read; left = left }
  where
    row : Row
    row = r.row

    equal : row ≡ good_row row.body row.frame row.minutes r.ours.x r.ours.y r.ours.z
    equal = λ i. record {
      status = (good_is row r.good).no_refusal i;
      body = row.body;
      frame = row.frame;
      minutes = row.minutes;
      x = abs_none row.x r.ours.x r.near.x_near i;
      y = abs_none row.y r.ours.y r.near.y_near i;
      z = abs_none row.z r.ours.z r.near.z_near i;
    }

    left : (before : List ℕ) → row_size ≤ length before → row_written (Minutes row.minutes) row.body row.frame before ≡ (Ok tt, take row_size bytes ++ drop row_size before)
    left before h =
        row_by (Minutes row.minutes) row.body row.frame before h
        ∙ ap (λ (a : Result (ℤ × Coordinates) Refusal). answer_written row.body row.frame a before) r.place
        ∙ ap (λ (b : List ℕ). (Ok tt, b ++ drop row_size before)) (ap row_bytes (sym equal) ∙ its_bytes_are_those_read bytes row r.read t)

our_own_is_right : (allowed : ℕ) (bytes : List ℕ) → OurOwn bytes → RightRow allowed bytes
our_own_is_right allowed bytes o =
    let row = o.row in
    let room = what_is_read_has_its_size bytes row o.read in
    what_a_row_call_leaves_is_right allowed (Minutes row.minutes) row.body row.frame bytes bytes room (o.left bytes room ∙ ap (λ (b : List ℕ). (Ok tt, b)) (take-append-drop row_size bytes))

module _ (bytes : List ℕ) (count : ℤ) where
  pub good_at_0_means_our_own_rows : T (are_bytes bytes) → mark_answer bytes count (pos 0) ≡ Ok None → (k : ℕ) → k < nat_abs count → OurOwn (drop (row_size * k) bytes)
  good_at_0_means_our_own_rows t e k l = right_is_our_own (drop (row_size * k) bytes) (bytes_parts (row_size * k) bytes t).1 ((good_says_that_every_row_is_right bytes count (pos 0) e).1 k l)

  pub our_own_rows_are_good : (allowed : ℤ) → Marked bytes count allowed → ((k : ℕ) → k < nat_abs count → OurOwn (drop (row_size * k) bytes)) → mark_answer bytes count allowed ≡ Ok None
  our_own_rows_are_good allowed m o = good_where_every_row_is_right bytes count allowed m (λ k l. our_own_is_right (nat_abs allowed) (drop (row_size * k) bytes) (o k l))

-- ---- a sheet that the sheet call wrote
module _ (start : Date) (step count body frame : ℤ) (before : List ℕ) (is : is_sheet step count ≡ true) (room : row_size * nat_abs count ≤ length before) (allowed : ℤ) (m : Markable count allowed) where
  abbrev after : List ℕ
  after = (sheet_written start step count body frame before).1

  marked : Marked after count allowed
  marked = record { in_range = m; room = omega (arith, a_sheet_keeps_the_length start step count body frame before is room) }

  right_at : (k : ℕ) → k < nat_abs count → FoundAt start step body frame k → RightRow (nat_abs allowed) (drop (row_size * k) after)
  right_at k l f = a_found_answer_is_right (nat_abs allowed) start (step *ℤ pos k) body frame (drop (row_size * k) after) (row_k_is_read start step count body frame before is room k l) f.minute f.place f.is

  -- "A sheet that the sheet call wrote without a refused row is good", at any allowance
  pub a_sheet_without_a_refused_row_is_good : sheet_good (sheet_written start step count body frame before).0 ≡ nat_abs count → mark_answer after count allowed ≡ Ok None
  a_sheet_without_a_refused_row_is_good e =
      good_where_every_row_is_right after count allowed marked (λ k l. right_at k l (no_row_is_refused start step count body frame before is room e k l))

  -- and of one with a refused row the first refused one is named
  pub the_first_refused_row_is_named : (k : ℕ) (r : Refusal) → k < nat_abs count → answer_at start step body frame k ≡ Err r → ((j : ℕ) → j < k → FoundAt start step body frame j) → mark_answer after count allowed ≡ Ok (Some (suc k))
  the_first_refused_row_is_named k r l e f =
      the_first_wrong_row_is_named after count allowed marked k
      (record {
        counted = l;
        wrong = a_refused_answer_is_wrong (nat_abs allowed) start (step *ℤ pos k) body frame (drop (row_size * k) after) (row_k_is_read start step count body frame before is room k l) r e;
        right_before = λ j i. right_at j (omega arith) (f j i);
      })
