-- `place_at` is the place in HAE of a body at a moment.
-- Its elements, and what is added to its mean anomaly, are in range on every minute of the interval.
use mathlib.Core.Path.{subst, sym}
use Rattle.integers.specs.Range.{Within}
use Rattle.orbits.specs.Range.{ElementsFit}
use Rattle.orbits.proofs.Moments.{elements_fit, extra_fits}
use Rattle.orbits.proofs.place_at.Goals as goal

pub mean_anomaly_of-requires : goal.mean_anomaly_of-requires
mean_anomaly_of-requires c = record {
  elements_fit = subst ElementsFit (sym c.elements_of-elements.ensures) (elements_fit c.args.moment c.args.body);
  within = subst (Within 1000000000000000000) (sym c.extra_at-extra.ensures) (extra_fits c.args.moment c.args.body);
}

pub place_of-requires : goal.place_of-requires
place_of-requires c = subst ElementsFit (sym c.elements_of-elements.ensures) (elements_fit c.args.moment c.args.body)
