-- `sum` is the sum of two elements, of which the bounds keep it within 64 bits.
-- By the numbers with bounds of `integers`.
use Rattle.integers.proofs.Number.{known, add, add_fits}
use Rattle.angles.proofs.Element.sum.Goals as goal

pub overflow_add-result : goal.overflow_add-result
overflow_add-result c = add_fits (known c.before.before.before.before.requires.within tt) (known c.before.before.before.before.requires.within_2 tt) tt

pub returns : goal.returns
returns c = (add (known c.before.before.before.before.requires.within tt) (known c.before.before.before.before.requires.within_2 tt) tt).is
