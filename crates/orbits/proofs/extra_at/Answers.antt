-- `extra_at` is what the moment's table adds to the mean anomaly of a body: nothing by Table 1.
-- The four numbers of every table are in range.
use mathlib.Core.Path.{subst, sym, ◌∙◌}
use Rattle.orbits.specs.Elements.{extra_of}
use Rattle.orbits.specs.Range.{TermsFit}
use Rattle.integers.proofs.Cast.{read}
use Rattle.orbits.proofs.Moments.{terms_read, minute_read, terms_fit, none_added}
use Rattle.orbits.proofs.extra_at.Goals as goal

pub returns-then-moment-eq1 : goal.returns-then-moment-eq1
returns-then-moment-eq1 c = c.of_hundred_millionths.ensures ∙ none_added c.args.moment c.args.body c.if-moment-eq1.true

pub extra_of-requires : goal.extra_of-requires
extra_of-requires c = subst (λ terms. TermsFit terms (read c.args.moment.minute)) (sym c.terms_of.ensures) (terms_fit c.args.moment c.args.body)

pub returns : goal.returns
returns c =
    c.extra_of.ensures
    ∙ (λ i. extra_of ((c.terms_of.ensures ∙ terms_read c.args.moment c.args.body) i) (minute_read c.args.moment c.args.body i))
