-- `interval_of` is the interval of a table.
-- The test of the code is the definition's.
use mathlib.Core.Path.{sym, ap}
use Rattle.integers.proofs.Same.{is_written, is_other}
use Rattle.tables.specs.Table.{interval_if, interval_of}
use Rattle.tables.proofs.interval_of.Goals as goal

pub returns-then-table-eq1 : goal.returns-then-table-eq1
unfolding interval_of
returns-then-table-eq1 c = sym (ap interval_if (is_written c.before.ranges.table 1 tt c.if-table-eq1.true))

pub returns : goal.returns
unfolding interval_of
returns c = sym (ap interval_if (is_other c.before.ranges.table 1 tt c.if-table-eq1.false))
