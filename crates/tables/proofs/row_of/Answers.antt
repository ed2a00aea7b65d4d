-- `row_of` gives the row of a body in a table.
-- By the test whether Table 1 is named.
use mathlib.Core.Bool.{Bool}
use mathlib.Core.Path.{sym, ap, ◌∙◌}
use Rattle.integers.proofs.Same.{is_written, is_other}
use Rattle.tables.specs.Table.{row_in, rows_if, table_row}
use Rattle.tables.specs.Bodies.{body_number}
use Rattle.tables.proofs.row_of.Goals as goal

pub returns-then-table-eq1 : goal.returns-then-table-eq1
unfolding table_row
returns-then-table-eq1 c = c.row1_of.ensures ∙ sym (ap (λ (b : Bool). row_in (rows_if b) (body_number c.args.body)) (is_written c.ranges.table 1 tt c.if-table-eq1.true))

pub returns : goal.returns
unfolding table_row
returns c = c.row2_of.ensures ∙ sym (ap (λ (b : Bool). row_in (rows_if b) (body_number c.args.body)) (is_other c.ranges.table 1 tt c.if-table-eq1.false))
