-- `elements_of` are the elements of a body by its table's row.
-- The row is in range on every minute of the interval.
use mathlib.Core.Path.{subst, sym, ◌∙◌}
use Rattle.orbits.specs.Elements.{elements_at}
use Rattle.orbits.specs.Range.{RowFits}
use Rattle.integers.proofs.Cast.{read}
use Rattle.orbits.proofs.Moments.{row_read, minute_read, row_fits}
use Rattle.orbits.proofs.elements_of.Goals as goal

pub elements_at-requires : goal.elements_at-requires
elements_at-requires c = subst (λ row. RowFits row (read c.args.moment.minute)) (sym c.row_of.ensures) (row_fits c.args.moment c.args.body)

pub returns : goal.returns
returns c =
    c.elements_at.ensures
    ∙ (λ i. elements_at ((c.row_of.ensures ∙ row_read c.args.moment c.args.body) i) (minute_read c.args.moment c.args.body i))
