-- `is_table` says whether a number is that of a table.
-- The callee's test, of the number read back.
use mathlib.Core.Path.{ap, ◌∙◌}
use Rattle.integers.proofs.Cast.{back}
use Rattle.tables.specs.Table.{is_table}
use Rattle.tables.proofs.is_table.Goals as goal

pub returns : goal.returns
returns c = c.is_from_to.ensures ∙ ap is_table (back c.before.args.table c.before.ranges.table)
