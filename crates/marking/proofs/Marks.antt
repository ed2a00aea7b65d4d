-- What may become of a sheet that is handed in, in the order of 02, Item 5: refused by 10 or 8, told its first wrong row, or good; each case says when
-- it is so. Every call is in one of them, and what it tells is the answer. From the tests of the definition, and the first thing picked (integers, First).
use mathlib.Core.Bool.{Bool, true, false}
use mathlib.Core.List.{List}
use mathlib.Core.Logic.{◌⊎◌, inl, inr}
use mathlib.Core.Path.{◌≡◌, refl, sym, ap, subst, ◌∙◌}
use Prim.Native.Nat.{ℕ, suc, ◌*◌, ◌≤◌, ◌<◌}
use native.Mathlib.Decide.{dec_lt}
use native.Mathlib.Omega.{arith}
use lib.IntN.{ℤ, pos, nat_abs}
use lib.ListN.{length, drop}
use Rattle.std.specs.Prelude.{Option, Some, None, Result, Ok, Err}
use Rattle.integers.specs.First.{IsFirst}
use Rattle.integers.proofs.First.{NoneBelow, FirstBelow, either, is_none, is_first}
use Rattle.integers.proofs.Table.{differ}
use Rattle.refusals.specs.declared.Refusal.TheVariants.{ShortBuffer, BadCount}
use Rattle.refusals.specs.declared.Refusal.{Refusal}
use Rattle.rows.specs.Fields.{row_size}
use Rattle.marking.specs.Wrong.{is_wrong_at}
use Rattle.marking.specs.Mark.{is_markable, mark_at, mark_answer}
use Rattle.marking.proofs.Laws.{Markable, markable, is_markable_lem, not_markable, mark_ten, mark_eight, mark_by}
use Rattle.marking.proofs.Rows.{WrongRow, RightRow, wrong_or_right, wrong_is, right_is, is_wrong_lem, is_right}

module _ (bytes : List ℕ) (count allowed : ℤ) where
  -- row k of the sheet, counted from 0, is wrong, or right
  abbrev pub WrongAt : ℕ → Type 0
  WrongAt k = WrongRow (nat_abs allowed) (drop (row_size * k) bytes)

  abbrev pub RightAt : ℕ → Type 0
  RightAt k = RightRow (nat_abs allowed) (drop (row_size * k) bytes)

  -- a sheet that is not refused: count and allowance are in range, and the slice has the rows
  pub record Marked : Type 0 where
    pub in_range : Markable count allowed
    pub room : row_size * nat_abs count ≤ length bytes

  -- row k is the first wrong one
  pub record FirstWrong (k : ℕ) : Type 0 where
    pub counted : k < nat_abs count
    pub wrong : WrongAt k
    pub right_before : (j : ℕ) → j < k → RightAt j

  pub data Outcome : Result (Option ℕ) Refusal → Type 0 where
    ten : (Markable count allowed → ⊥) → Outcome (Err BadCount)
    eight : Markable count allowed → length bytes < row_size * nat_abs count → Outcome (Err ShortBuffer)
    wrong : Marked → (k : ℕ) → FirstWrong k → Outcome (Ok (Some (suc k)))
    good : Marked → ((k : ℕ) → k < nat_abs count → RightAt k) → Outcome (Ok None)

  -- ---- an outcome is the answer
  pub an_outcome_is_the_answer : (a : Result (Option ℕ) Refusal) → Outcome a → mark_answer bytes count allowed ≡ a
  an_outcome_is_the_answer a (ten n) = mark_ten count allowed bytes (not_markable count allowed n)
  an_outcome_is_the_answer a (eight m l) = mark_eight count allowed bytes (is_markable_lem count allowed m) l
  an_outcome_is_the_answer a (wrong m k f) =
      let picks = is_wrong_at (nat_abs allowed) bytes in
      let first : IsFirst picks k = record { picked = is_wrong_lem (nat_abs allowed) (drop (row_size * k) bytes) f.wrong; none_before = λ j l. is_right (nat_abs allowed) (drop (row_size * j) bytes) (f.right_before j l) } in
      mark_by count allowed bytes (is_markable_lem count allowed m.in_range) m.room ∙ ap mark_at (is_first picks (nat_abs count) k first f.counted)
  an_outcome_is_the_answer a (good m h) =
      mark_by count allowed bytes (is_markable_lem count allowed m.in_range) m.room ∙ ap mark_at (is_none (is_wrong_at (nat_abs allowed) bytes) (nat_abs count) (λ k l. is_right (nat_abs allowed) (drop (row_size * k) bytes) (h k l)))

  -- ---- and every call has one
  settled : {a : Result (Option ℕ) Refusal} → Outcome a → Outcome (mark_answer bytes count allowed)
  settled {a} o = subst Outcome (sym (an_outcome_is_the_answer a o)) o

  pub every_call_has_an_outcome : Outcome (mark_answer bytes count allowed)
  every_call_has_an_outcome = by_range (is_markable count allowed) refl
    where
      by_rows : Marked → NoneBelow (is_wrong_at (nat_abs allowed) bytes) (nat_abs count) ⊎ FirstBelow (is_wrong_at (nat_abs allowed) bytes) (nat_abs count) → Outcome (mark_answer bytes count allowed)
      by_rows m (inl n) = settled (good m (λ k l. right_is (nat_abs allowed) (drop (row_size * k) bytes) (n k l)))
      by_rows m (inr f) = settled (wrong m f.at (record { counted = f.below; wrong = wrong_is (nat_abs allowed) (drop (row_size * f.at) bytes) f.first.picked; right_before = λ j l. right_is (nat_abs allowed) (drop (row_size * j) bytes) (f.first.none_before j l) }))

      by_room : Markable count allowed → Dec (length bytes < row_size * nat_abs count) → Outcome (mark_answer bytes count allowed)
      by_room m (yes l) = settled (eight m l)
      by_room m (no l) = by_rows (record { in_range = m; room = omega arith }) (either (is_wrong_at (nat_abs allowed) bytes) (nat_abs count))

      by_range : (b : Bool) → is_markable count allowed ≡ b → Outcome (mark_answer bytes count allowed)
      by_range true e = by_room (markable count allowed e) (dec_lt (length bytes) (row_size * nat_abs count))
      by_range false e = settled (ten (λ m. differ (sym e ∙ is_markable_lem count allowed m)))

  -- ---- "say "good" exactly when there is none": every counted row is right, so that none is wrong
  pub good_says_that_every_row_is_right : mark_answer bytes count allowed ≡ Ok None → Marked × ((k : ℕ) → k < nat_abs count → RightAt k)
  good_says_that_every_row_is_right e = go (mark_answer bytes count allowed) every_call_has_an_outcome e
    where
      go : (a : Result (Option ℕ) Refusal) → Outcome a → a ≡ Ok None → Marked × ((k : ℕ) → k < nat_abs count → RightAt k)
      go a (ten n) e = let z : ◌≡◌ {A = ℕ} 0 1 = cc in absurd (omega arith)
      go a (eight m l) e = let z : ◌≡◌ {A = ℕ} 0 1 = cc in absurd (omega arith)
      go a (wrong m k f) e = let z : ◌≡◌ {A = ℕ} 0 1 = cc in absurd (omega arith)
      go a (good m h) e = (m, h)

  pub good_where_every_row_is_right : Marked → ((k : ℕ) → k < nat_abs count → RightAt k) → mark_answer bytes count allowed ≡ Ok None
  good_where_every_row_is_right m h = an_outcome_is_the_answer (Ok None) (good m h)

  pub good_where_no_row_is_wrong : Marked → ((k : ℕ) → k < nat_abs count → WrongAt k → ⊥) → mark_answer bytes count allowed ≡ Ok None
  good_where_no_row_is_wrong m n = good_where_every_row_is_right m (λ k l. not_wrong k (n k l))
    where
      not_wrong : (k : ℕ) → (WrongAt k → ⊥) → RightAt k
      not_wrong k n = elim (wrong_or_right (nat_abs allowed) (drop (row_size * k) bytes)) [ inl w ↦ absurd (n w.1) | inr r ↦ r.1 ]

  -- ---- "name by its place, counted from 1, the first row that is" wrong
  pub record Named (place : ℕ) : Type 0 where
    pub number : ℕ
    pub marked : Marked
    pub first_wrong : FirstWrong number
    pub from_one : suc number ≡ place

  pub the_row_named_is_the_first_wrong_one : (place : ℕ) → mark_answer bytes count allowed ≡ Ok (Some place) → Named place
  the_row_named_is_the_first_wrong_one place e = go (mark_answer bytes count allowed) every_call_has_an_outcome e
    where
      go : (a : Result (Option ℕ) Refusal) → Outcome a → a ≡ Ok (Some place) → Named place
      go a (ten n) e = let z : ◌≡◌ {A = ℕ} 0 1 = cc in absurd (omega arith)
      go a (eight m l) e = let z : ◌≡◌ {A = ℕ} 0 1 = cc in absurd (omega arith)
      go a (wrong m k f) e = record { number = k; marked = m; first_wrong = f; from_one = cc }
      go a (good m h) e = let z : ◌≡◌ {A = ℕ} 0 1 = cc in absurd (omega arith)

  pub the_first_wrong_row_is_named : Marked → (k : ℕ) → FirstWrong k → mark_answer bytes count allowed ≡ Ok (Some (suc k))
  the_first_wrong_row_is_named m k f = an_outcome_is_the_answer (Ok (Some (suc k))) (wrong m k f)

-- an empty sheet is good, whatever the bytes
pub no_rows_are_good : (bytes : List ℕ) (allowed : ℤ) → Markable (pos 0) allowed → mark_answer bytes (pos 0) allowed ≡ Ok None
no_rows_are_good bytes allowed m = good_where_every_row_is_right bytes (pos 0) allowed (record { in_range = m; room = omega arith }) (λ k l. absurd (omega arith))
