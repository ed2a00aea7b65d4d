-- `mark` answers as the definition says.
-- Its two tests are the definition's, and `first_wrong` finds the place.
use borrow.Author.Rules.{rules}
use mathlib.Core.Bool.{true}
use mathlib.Core.Path.{◌≡◌, refl, sym, ap, ◌∙◌}
use Prim.Native.Nat.{ℕ, ◌+◌}
use native.Mathlib.Omega.{arith}
use native.Mathlib.Numerals.{add-one}
use lib.IntN.{nat_abs}
use Rattle.std.specs.Prelude.{Option, Some, None, Ok}
use Rattle.std.specs.Option.{MatchOption, IsSomeAnd}
use Rattle.std.proofs.lemmas.Option.{MatchOption-at_some}
use Rattle.integers.specs.First.{first_picked}
use Rattle.integers.proofs.First.{first_most}
use Rattle.integers.proofs.Cast.{read, back, cast_fits}
use Rattle.integers.proofs.Ranges.{range_most}
use Rattle.marking.specs.Wrong.{is_wrong_at}
use Rattle.marking.specs.Mark.{is_markable, mark_at, mark_answer}
use Rattle.marking.proofs.Laws.{Markable, markable, mark_ten, mark_eight, mark_by}
use Rattle.marking.proofs.mark.Goals as goal
use Rattle.marking.proofs.mark.Goals.{After-first_wrong, Else-not-is_markable, Start}

-- the definition, of the numbers that the machine reads back
as_read : (s : Start) → mark_answer s.args.bytes.now (read s.args.count) (read s.args.allowed) ≡ mark_answer s.args.bytes.now s.args.count s.args.allowed
as_read s = λ i. mark_answer s.args.bytes.now (back s.args.count s.ranges.count i) (back s.args.allowed s.ranges.allowed i)

pub returns-then-not-is_markable : goal.returns-then-not-is_markable
returns-then-not-is_markable c =
    sym (mark_ten (read c.args.count) (read c.args.allowed) c.args.bytes.now (sym c.is_markable.ensures ∙ c.if-not-is_markable.true))
    ∙ as_read (goal.at.returns-then-not-is_markable c).Start

-- past the first test both are in range
is : (c : Else-not-is_markable) → is_markable (read c.args.count) (read c.args.allowed) ≡ true
is c = sym c.is_markable.ensures ∙ c.if-not-is_markable.false

within : (c : Else-not-is_markable) → Markable (read c.args.count) (read c.args.allowed)
within c = markable _ _ (is c)

pub overflow_cast-n : goal.overflow_cast-n
overflow_cast-n c =
    let m = within (goal.at.overflow_cast-n c).Else-not-is_markable in
    cast_fits refl m.count_range.low (omega (arith, range_most 0 _ m.count_range))

pub overflow_mul-n : goal.overflow_mul-n
overflow_mul-n c =
    let m = within (goal.at.overflow_mul-n c).Else-not-is_markable in
    record { fits = omega (arith, range_most 0 _ m.count_range) }

pub returns-then-bytes-n : goal.returns-then-bytes-n
returns-then-bytes-n c =
    let first = (goal.at.returns-then-bytes-n c).Else-not-is_markable in
    sym (mark_eight (read c.args.count) (read c.args.allowed) c.args.bytes.now (is first) c.if-bytes-n.true)
    ∙ as_read (goal.at.returns-then-bytes-n c).Start

pub overflow_cast-allowed : goal.overflow_cast-allowed
overflow_cast-allowed c =
    let m = within (goal.at.overflow_cast-allowed c).Else-not-is_markable in
    cast_fits refl m.allowed_range.low (omega (arith, range_most 0 _ m.allowed_range))

pub first_wrong-requires : goal.first_wrong-requires
first_wrong-requires c =
    let m = within (goal.at.first_wrong-requires c).Else-not-is_markable in
    (range_most 0 _ m.count_range, c.if-bytes-n.false)

-- the definition's place of the first wrong row
abbrev place : After-first_wrong → ℕ
place c = first_picked (is_wrong_at (nat_abs (read c.args.allowed)) c.args.bytes.now) (nat_abs (read c.args.count))

pub map-requires : goal.map-requires
map-requires c = λ k e _ _.
    let m = within (goal.at.map-requires c).Else-not-is_markable in
    let at : place c ≡ k + 1 = MatchOption-at_some (place c ≡ 0) (λ k. place c ≡ k + 1) k e c.first_wrong.ensures in
    record { fits = omega (arith, at, first_most (is_wrong_at (nat_abs (read c.args.allowed)) c.args.bytes.now) (nat_abs (read c.args.count)), range_most 0 _ m.count_range) }

-- the answer by the number of the first wrong row, and its place
answered : (place : ℕ) (number told : Option ℕ) → MatchOption number (place ≡ 0) (λ k. place ≡ k + 1) → MatchOption number (told ≡ None) (λ k. IsSomeAnd told (λ p. p ≡ k + 1)) → Ok told ≡ mark_at place
answered place None told e t = ap Ok t ∙ ap mark_at (sym e)
answered place (Some k) None e t = absurd t
answered place (Some k) (Some p) e t = ap (λ (n : ℕ). Ok (Some n)) (t ∙ add-one k) ∙ ap mark_at (sym (e ∙ add-one k))

pub returns : goal.returns
returns c =
    let found = (goal.at.returns c).After-first_wrong in
    answered (place found) c.first_wrong.result c.map.result c.first_wrong.ensures (search rules)
    ∙ sym (mark_by (read c.args.count) (read c.args.allowed) c.args.bytes.now (is (goal.at.returns c).Else-not-is_markable) c.if-bytes-n.false)
    ∙ as_read (goal.at.returns c).Start
