-- `viewing` answers as the definition says.
-- Its tests are the definition's, and on a span that is accepted every date is one of the table's interval.
use borrow.Author.Rules.{rules}
use mathlib.Core.Bool.{Bool, true}
use mathlib.Core.Path.{◌≡◌, refl, sym, ap, ◌∙◌}
use native.Mathlib.Omega.{arith}
use lib.IntN.{ℤ, nat_abs}
use Rattle.integers.proofs.Cast.{read, back, cast_fits}
use Rattle.integers.proofs.Difference.{zarith}
use Rattle.integers.proofs.Ranges.{range_most}
use Rattle.viewing.specs.Viewing.{is_search, span_moment, viewing_by, viewing_answer}
use Rattle.viewing.proofs.Laws.{Taken, taken, step_within, count_within, span_is, span_fits}
use Rattle.viewing.proofs.viewing.Goals as goal
use Rattle.viewing.proofs.viewing.Goals.{Else-not-is_search, In-Ok, Start}
use Rattle.std.specs.Prelude.{Ok, Result}
use Rattle.refusals.specs.declared.Refusal.{Refusal}

module _ (s : Start) where
  -- the definition, of the numbers that the machine reads back
  as_read : viewing_answer s.args.start (read s.args.table) (read s.args.step) (read s.args.count) (read s.args.body) ≡ viewing_answer s.args.start s.args.table s.args.step s.args.count s.args.body
  as_read = λ i. viewing_answer s.args.start (back s.args.table s.ranges.table i) (back s.args.step s.ranges.step i) (back s.args.count s.ranges.count i) (back s.args.body s.ranges.body i)

  -- by the outcome of the first test, and by the moment of the span
  by : {b : Bool} {span : Result ℤ Refusal} → is_search (read s.args.step) (read s.args.count) ≡ b → span_moment s.args.start (read s.args.table) (read s.args.step) (read s.args.count) ≡ span
      → viewing_by b span (read s.args.table) (read s.args.body) (read s.args.step) (nat_abs (read s.args.count)) ≡ viewing_answer s.args.start s.args.table s.args.step s.args.count s.args.body
  unfolding viewing_answer
  by e f = sym (λ i. viewing_by (e i) (f i) (read s.args.table) (read s.args.body) (read s.args.step) (nat_abs (read s.args.count))) ∙ as_read

pub returns-then-not-is_search : goal.returns-then-not-is_search
returns-then-not-is_search c = c.none_looked_at.ensures ∙ by (goal.at.returns-then-not-is_search c).Start (sym c.is_search.ensures ∙ c.if-not-is_search.true) refl

is : (c : Else-not-is_search) → is_search (read c.args.step) (read c.args.count) ≡ true
is c = sym c.is_search.ensures ∙ c.if-not-is_search.false

within : (c : Else-not-is_search) → Taken (read c.args.step) (read c.args.count)
within c = taken (read c.args.step) (read c.args.count) (is c)

pub span_moment-requires : goal.span_moment-requires
span_moment-requires c = let t = within (goal.at.span_moment-requires c).Else-not-is_search in (step_within t, count_within t)

pub returns-in-Err : goal.returns-in-Err
returns-in-Err c = c.none_looked_at-in-Err.ensures ∙ by (goal.at.returns-in-Err c).Start (is (goal.at.returns-in-Err c).Else-not-is_search) (sym c.in-Err.ensures)

minute_is : (c : In-Ok) → read c.in-Ok.first ≡ c.in-Ok.first
minute_is c = search rules

-- the span of this arm
span_told : (c : In-Ok) → span_moment c.args.start (read c.args.table) (read c.args.step) (read c.args.count) ≡ Ok (read c.in-Ok.first)
span_told c = sym c.in-Ok.ensures ∙ ap Ok (sym (minute_is c))

pub overflow_cast-count : goal.overflow_cast-count
overflow_cast-count c =
    let n = read c.args.count in
    let t = (within (goal.at.overflow_cast-count c).Else-not-is_search).count_range in
    cast_fits {x = n} {z = n} refl (omega (zarith, t.low)) (omega (arith, range_most 1 n t))

pub invariant_of-walk : goal.invariant_of-walk
invariant_of-walk c =
    let first = read c.in-Ok.first in
    record {
      fits = span_fits c.args.start (read c.args.table) (read c.args.step) (read c.args.count) first (within (goal.at.invariant_of-walk c).Else-not-is_search)
          (span_is c.args.start (read c.args.table) (read c.args.step) (read c.args.count) first (span_told (goal.at.invariant_of-walk c).In-Ok));
    }

pub returns-in-Ok : goal.returns-in-Ok
returns-in-Ok c =
    c.viewing_from.ensures
    ∙ by (goal.at.returns-in-Ok c).Start (is (goal.at.returns-in-Ok c).Else-not-is_search) (span_told (goal.at.returns-in-Ok c).In-Ok)
