-- The answer by what its tests told, and what a count and an allowance in range are.
-- By the cases of the definition.
use borrow.Author.Tests.{le-leb, lt-leb}
use mathlib.Core.Bool.{true, false, ◌&&◌}
use mathlib.Core.List.{List}
use mathlib.Core.Path.{◌≡◌, subst⁻¹}
use Prim.Native.Nat.{ℕ, ◌*◌, ◌≤◌, ◌<◌}
use lib.Dec.{T, leb}
use lib.IntN.{ℤ, pos, nat_abs}
use lib.ListN.{length}
use mir.Facts.{and_yes}
use Rattle.std.specs.Prelude.{Err}
use Rattle.integers.specs.First.{first_picked}
use Rattle.integers.specs.Range.{FromTo, is_from_to}
use Rattle.integers.proofs.Ranges.{of_test, is_inside}
use Rattle.integers.proofs.Table.{yes, no}
use Rattle.refusals.specs.declared.Refusal.TheVariants.{ShortBuffer, BadCount}
use Rattle.rows.specs.Fields.{row_size}
use Rattle.marking.specs.Wrong.{is_wrong_at}
use Rattle.marking.specs.Mark.{is_markable, mark_at, mark_if, mark_answer}

-- ---- a count and an allowance in range
pub record Markable (count allowed : ℤ) : Type 0 where
  pub count_range : FromTo (pos 0) (pos 400) count
  pub allowed_range : FromTo (pos 0) (pos 1000000) allowed

module _ (count allowed : ℤ) where
  pub markable : is_markable count allowed ≡ true → Markable count allowed
  unfolding is_markable
  markable e =
      let t = and_yes (is_from_to (pos 0) (pos 400) count) (is_from_to (pos 0) (pos 1000000) allowed) (subst⁻¹ T e tt) in
      record { count_range = of_test (pos 0) (pos 400) count t.0; allowed_range = of_test (pos 0) (pos 1000000) allowed t.1 }

  pub is_markable_lem : Markable count allowed → is_markable count allowed ≡ true
  unfolding is_markable
  is_markable_lem m = λ i. is_inside (pos 0) (pos 400) count m.count_range i && is_inside (pos 0) (pos 1000000) allowed m.allowed_range i

  pub not_markable : (Markable count allowed → ⊥) → is_markable count allowed ≡ false
  not_markable n = no (is_markable count allowed) (λ t. n (markable (yes (is_markable count allowed) t)))

  -- ---- the answer
  module _ (bytes : List ℕ) where
    pub mark_ten : is_markable count allowed ≡ false → mark_answer bytes count allowed ≡ Err BadCount
    unfolding mark_answer
    mark_ten e = λ i. mark_if (e i) (leb (row_size * nat_abs count) (length bytes)) bytes (nat_abs count) (nat_abs allowed)

    pub mark_eight : is_markable count allowed ≡ true → length bytes < row_size * nat_abs count → mark_answer bytes count allowed ≡ Err ShortBuffer
    unfolding mark_answer
    mark_eight e l = λ i. mark_if (e i) (lt-leb (row_size * nat_abs count) (length bytes) l i) bytes (nat_abs count) (nat_abs allowed)

    pub mark_by : is_markable count allowed ≡ true → row_size * nat_abs count ≤ length bytes → mark_answer bytes count allowed ≡ mark_at (first_picked (is_wrong_at (nat_abs allowed) bytes) (nat_abs count))
    unfolding mark_answer
    mark_by e l = λ i. mark_if (e i) (le-leb (row_size * nat_abs count) (length bytes) l i) bytes (nat_abs count) (nat_abs allowed)
