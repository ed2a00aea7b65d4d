-- `extra_alone` is what the moment's table adds to the mean anomaly of a body: nothing by Table 1.
-- By what the call over a table of sines ensures.
use mathlib.Core.Path.{◌∙◌}
use Rattle.orbits.proofs.Moments.{none_added}
use Rattle.orbits.proofs.extra_alone.Goals as goal

pub returns-then-moment-eq1 : goal.returns-then-moment-eq1
returns-then-moment-eq1 c = c.of_hundred_millionths.ensures ∙ none_added c.args.moment c.args.body c.if-moment-eq1.true
