-- `span_moment` is the moment of the first date, if the last one is accepted too.
-- By the cases of the two moments; the offset of the last date is below 10^13.
use borrow.Author.Rules.{rules}
use mathlib.Core.Path.{◌≡◌, refl, ap, subst⁻¹, ◌∙◌}
use lib.IntN.{ℤ, pos, ◌-ℤ◌, ◌*ℤ◌}
use Rattle.std.specs.Prelude.{Ok, Result}
use Rattle.integers.specs.Range.{Within}
use Rattle.integers.proofs.Cast.{read, back}
use Rattle.integers.proofs.Number.{Num, known, lit, mul, mul_fits, sub, sub_fits, w_more}
use Rattle.refusals.specs.declared.Refusal.{Refusal}
use Rattle.refusals.proofs.Handed.{handed_on}
use Rattle.tables.specs.Table.{moment_after}
use Rattle.viewing.specs.Viewing.{span_of, span_moment}
use Rattle.viewing.proofs.span_moment.Goals as goal
use Rattle.viewing.proofs.span_moment.Goals.{In_ok-first, Start}

module _ (s : Start) where
  count_is : Num (read s.args.count) s.args.count 4000
  count_is = known s.requires.1 tt

  steps : Num (read (read s.args.count -ℤ pos 1)) (s.args.count -ℤ pos 1) 4001
  steps = sub count_is (lit (pos 1)) tt

  step_is : Num (read s.args.step) s.args.step 1000000
  step_is = known s.requires.0 tt

  -- from the first date to the last
  offset : Num (read (read s.args.step *ℤ read (read s.args.count -ℤ pos 1))) (s.args.step *ℤ (s.args.count -ℤ pos 1)) 4001000000
  offset = mul step_is steps tt

  -- the definition by what the two moments are
  by : {first last : Result ℤ Refusal} → first ≡ moment_after s.args.start (read s.args.table) (pos 0)
      → last ≡ moment_after s.args.start (read s.args.table) (read (read s.args.step *ℤ read (read s.args.count -ℤ pos 1)))
      → span_of first last ≡ span_moment s.args.start s.args.table s.args.step s.args.count
  unfolding span_moment
  by e f =
      let table = back s.args.table s.ranges.table in
      λ i. span_of ((e ∙ ap (λ (t : ℤ). moment_after s.args.start t (pos 0)) table) i) ((f ∙ (λ j. moment_after s.args.start (table j) (offset.is j))) i)

pub overflow_sub-count : goal.overflow_sub-count
overflow_sub-count c = sub_fits (count_is (goal.at.overflow_sub-count c).Start) (lit (pos 1)) tt

pub overflow_mul-step : goal.overflow_mul-step
overflow_mul-step c = let s = (goal.at.overflow_mul-step c).Start in mul_fits (step_is s) (steps s) tt

pub moment_after-requires-2 : goal.moment_after-requires-2
moment_after-requires-2 c = let o = offset (goal.at.moment_after-requires-2 c).Start in w_more (subst⁻¹ (Within 4001000000) o.is o.small) tt

pub returns-in_err-first : goal.returns-in_err-first
returns-in_err-first c =
    let s = (goal.at.returns-in_err-first c).Start in
    handed_on c.from_residual.ensures.1 ∙ by s c.in_err-first.ensures refl

pub returns-in_err-moment_after : goal.returns-in_err-moment_after
returns-in_err-moment_after c =
    let s = (goal.at.returns-in_err-moment_after c).Start in
    handed_on c.from_residual-in_err-moment_after.ensures.1 ∙ by s c.in_ok-first.ensures c.in_err-moment_after.ensures

minute_is : (c : In_ok-first) → read c.in_ok-first.first ≡ c.in_ok-first.first
minute_is c = search rules

pub returns : goal.returns
returns c =
    let at = goal.at.returns c in
    ap Ok (minute_is at.In_ok-first) ∙ by at.Start c.in_ok-first.ensures c.in_ok-moment_after.ensures
