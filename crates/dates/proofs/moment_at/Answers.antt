-- `moment_at` tests the exact sum of a minute and an offset, and accepts it or gives refusal 2; without a minute it gives refusal 1.
-- A minute as it is carried and an offset in reach add up within 64 bits; the test of the code is the definition's.
use mathlib.Core.Bool.{Bool, false, true}
use mathlib.Core.Path.{◌≡◌, sym, ap, subst, ◌∙◌}
use lib.IntN.{ℤ, ◌+ℤ◌}
use Rattle.integers.specs.Range.{Within, is_from_to}
use Rattle.integers.proofs.Cast.{read}
use Rattle.integers.proofs.Number.{Num, known, add}
use Rattle.dates.specs.Moment.{covers, tested_if, moment_at}
use Rattle.dates.specs.Reach.{Held, near_minute}
use Rattle.dates.proofs.Laws.{not_finite, at_sum, by_test}
use Rattle.dates.proofs.moment_at.Goals as goal
use Rattle.dates.proofs.moment_at.Goals.{In-Some}
use Rattle.std.specs.Prelude.{Ok, Option, Some}

pub returns-in_default : goal.returns-in_default
returns-in_default c =
    sym (ap (λ (x : Option ℤ). moment_at c.args.interval x c.args.offset) c.in_default.is ∙ not_finite c.args.interval c.args.offset)

within : {m : ℤ} → Held (Some m) → Within 100000000000000 m
within (near_minute w) = w

module _ (c : In-Some) where
  abbrev m : ℤ
  m = c.in-Some.start

  start : Num (read m) m 100000000000000
  start = known (within (subst Held c.in-Some.is c.requires.held)) tt

  offset : Num (read c.args.offset) c.args.offset 10000000000000
  offset = known c.requires.in_reach.offset_near tt

  sum : Num (read (read m +ℤ read c.args.offset)) (m +ℤ c.args.offset) 110000000000000
  sum = add start offset tt

  -- the moment is the test of the sum
  is : (b : Bool) → covers c.args.interval (m +ℤ c.args.offset) ≡ b → moment_at c.args.interval c.args.minute c.args.offset ≡ tested_if b (m +ℤ c.args.offset)
  is b e =
      ap (λ (x : Option ℤ). moment_at c.args.interval x c.args.offset) c.in-Some.is
      ∙ at_sum c.args.interval m c.args.offset ∙ by_test c.args.interval (m +ℤ c.args.offset) b e

  -- what the call told is the test of the sum itself
  told : {b : Bool} → b ≡ is_from_to (read c.args.interval.first) (read c.args.interval.last) (read (read m +ℤ read c.args.offset)) → covers c.args.interval (m +ℤ c.args.offset) ≡ b
  told e =
      let r = c.requires.in_reach in
      sym (e ∙ (λ i. is_from_to ((known r.first_near tt).is i) ((known r.last_near tt).is i) (sum.is i)))

pub returns-then-not-is_from_to : goal.returns-then-not-is_from_to
returns-then-not-is_from_to c =
    let k = (goal.at.returns-then-not-is_from_to c).In-Some in
    sym (is k false (told k c.is_from_to.ensures ∙ c.if-not-is_from_to.true))

pub returns : goal.returns
returns c =
    let k = (goal.at.returns c).In-Some in
    ap Ok (sum k).is ∙ sym (is k true (told k c.is_from_to.ensures ∙ c.if-not-is_from_to.false))
