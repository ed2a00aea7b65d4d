-- `difference` is the difference of two elements, of which the bounds keep it within 64 bits.
-- By the numbers with bounds of `integers`.
use Rattle.integers.proofs.Number.{known, sub, sub_fits}
use Rattle.angles.proofs.Element.difference.Goals as goal

pub overflow_sub-result : goal.overflow_sub-result
overflow_sub-result c = sub_fits (known c.before.before.before.before.requires.within tt) (known c.before.before.before.before.requires.within_2 tt) tt

pub returns : goal.returns
returns c = (sub (known c.before.before.before.before.requires.within tt) (known c.before.before.before.before.requires.within_2 tt) tt).is
