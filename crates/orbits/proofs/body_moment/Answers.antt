-- `body_moment` is the moment of a date and the body of a number, or refusal 1, 11, 2 or 3 in order.
-- By the two cases of the date's moment, and then of the body, whose test is the definition's.
use mathlib.Core.Bool.{Bool, true, false}
use mathlib.Core.Path.{◌≡◌, refl, sym, ap, ◌∙◌}
use lib.IntN.{ℤ, pos}
use Rattle.std.specs.Prelude.{Result, Ok, Err}
use Rattle.integers.proofs.Cast.{back}
use Rattle.refusals.specs.declared.Refusal.{Refusal}
use Rattle.refusals.proofs.Handed.{handed_on}
use Rattle.tables.specs.Table.{is_body, moment_after}
use Rattle.tables.specs.Bodies.{body_of}
use Rattle.tables.proofs.Bodies.{body_is, no_body_is}
use Rattle.orbits.specs.Answer.{body_if, body_moment}
use Rattle.orbits.proofs.body_moment.Goals as goal
use Rattle.orbits.proofs.body_moment.Goals.{In_ok-moment, Start}

-- the definition by the moment and by the test's outcome
by : (c : Start) {o : Result ℤ Refusal} {b : Bool} → moment_after c.args.date c.args.table (pos 0) ≡ o → is_body c.args.body ≡ b → body_moment c.args.date c.args.table c.args.body ≡ body_if b o
unfolding body_moment
by c m t i = body_if (t i) (m i)

refused : (b : Bool) (r : Refusal) → body_if b (Err r) ≡ Err r
refused true r = refl
refused false r = refl

pub returns-in_err-moment : goal.returns-in_err-moment
returns-in_err-moment c =
    let s = (goal.at.returns-in_err-moment c).Start in
    let m = sym (λ i. moment_after c.args.date (back c.args.table c.ranges.table i) (pos 0)) ∙ c.in_err-moment.ensures in
    rw (handed_on c.from_residual.ensures.1) (by s m refl ∙ refused (is_body c.args.body) c.in_err-moment.field-0.0)

-- past the date's refusals
told : (c : In_ok-moment) → moment_after c.args.date c.args.table (pos 0) ≡ Ok c.in_ok-moment.moment.minute
told c = sym (λ i. moment_after c.args.date (back c.args.table c.ranges.table i) (pos 0)) ∙ c.in_ok-moment.ensures.1

pub returns-in_err-body : goal.returns-in_err-body
returns-in_err-body c =
    let s = (goal.at.returns-in_err-body c).Start in
    let m = (goal.at.returns-in_err-body c).In_ok-moment in
    let none = no_body_is c.args.body c.in_err-body.field-0.0 (sym (c.in_err-body.ensures ∙ ap body_of (back c.args.body c.ranges.body))) in
    rw (handed_on c.from_residual-in_err-body.ensures.1) (by s (told m) none.1 ∙ ap Err (sym none.0))

pub returns : goal.returns
returns c =
    let s = (goal.at.returns c).Start in
    let m = (goal.at.returns c).In_ok-moment in
    let found = body_is c.args.body c.in_ok-body.body (sym (c.in_ok-body.ensures ∙ ap body_of (back c.args.body c.ranges.body))) in
    (c.in_ok-moment.ensures.0 ∙ back c.args.table c.ranges.table, found.0, by s (told m) found.1)
