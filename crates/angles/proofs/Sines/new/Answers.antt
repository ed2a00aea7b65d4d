-- `Sines::new` makes the table: its entries are those of the list.
-- By computation.
use mathlib.Core.Path.{refl}
use Rattle.angles.specs.Sines.{sine_entries}
use Rattle.angles.proofs.Sines.new.Goals as goal

pub invariant_of-result : goal.invariant_of-result
unfolding sine_entries
invariant_of-result c = record { ruled = refl }
