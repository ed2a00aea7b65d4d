-- `place_in_au` is the answer's place as three doubles, or its refusal.
-- Every part of a place that was found becomes a double exactly.
use mathlib.Core.Path.{◌≡◌, sym, ap, ◌∙◌}
use lib.IntN.{pos}
use Rattle.std.specs.Prelude.{Ok}
use Rattle.integers.proofs.Cast.{back}
use Rattle.integers.proofs.Number.{known, w_read}
use Rattle.refusals.proofs.Handed.{handed_on}
use Rattle.projector.specs.Au.{CountsExact, in_au}
use Rattle.places.specs.Answer.{place_answer, au_from}
use Rattle.places.proofs.Answers.{found_exact}
use Rattle.places.proofs.place_in_au.Goals as goal
use Rattle.places.proofs.place_in_au.Goals.{In_ok-p}

-- the answer for the date, of the numbers themselves, is that of this arm
told : (c : In_ok-p) → place_answer c.args.date c.args.table c.args.body c.args.frame ≡ Ok (c.in_ok-p.field-0-0, c.in_ok-p.p)
told c = sym (c.in_ok-p.ensures ∙ (λ i. place_answer c.args.date (back c.args.table c.ranges.table i) (back c.args.body c.ranges.body i) (back c.args.frame c.ranges.frame i)))

counts : (c : In_ok-p) → CountsExact c.in_ok-p.p.x c.in_ok-p.p.y c.in_ok-p.p.z
counts c = found_exact c.args.date c.args.table (pos 0) c.args.body c.args.frame c.in_ok-p.field-0-0 c.in_ok-p.p (told c)

pub in_au-requires : goal.in_au-requires
in_au-requires c =
    let e = counts (goal.at.in_au-requires c).In_ok-p in
    record { x_exact = w_read e.x_exact tt; y_exact = w_read e.y_exact tt; z_exact = w_read e.z_exact tt }

pub returns : goal.returns
returns c =
    let p = (goal.at.returns c).In_ok-p in
    let e = counts p in
    ap Ok (c.in_au.ensures ∙ (λ i. in_au ((known e.x_exact tt).is i) ((known e.y_exact tt).is i) ((known e.z_exact tt).is i)))
    ∙ sym (ap au_from (told p))

pub returns-in_err-p : goal.returns-in_err-p
returns-in_err-p c =
    handed_on c.from_residual.ensures.1
    ∙ ap au_from (c.in_err-p.ensures ∙ (λ i. place_answer c.args.date (back c.args.table c.ranges.table i) (back c.args.body c.ranges.body i) (back c.args.frame c.ranges.frame i)))
