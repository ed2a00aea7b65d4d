-- `mean_at` is the mean anomaly of a body at a moment.
-- Elements and further terms are in range there.
use mathlib.Core.Path.{subst, sym}
use Rattle.integers.specs.Range.{Within}
use Rattle.orbits.specs.Range.{ElementsFit}
use Rattle.orbits.proofs.Moments.{elements_fit, extra_fits}
use Rattle.orbits.proofs.mean_at.Goals as goal

pub mean_anomaly_of-requires : goal.mean_anomaly_of-requires
mean_anomaly_of-requires c = record {
  elements_fit = subst ElementsFit (sym c.elements_of-elements.ensures) (elements_fit c.args.moment c.args.body);
  within = subst (Within 1000000000000000000) (sym c.extra_alone.ensures) (extra_fits c.args.moment c.args.body);
}
