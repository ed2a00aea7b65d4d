-- `is_body` says whether a number is that of a body.
-- The callee's test, of the number read back.
use mathlib.Core.Path.{ap, ◌∙◌}
use Rattle.integers.proofs.Cast.{back}
use Rattle.tables.specs.Table.{is_body}
use Rattle.tables.proofs.is_body.Goals as goal

pub returns : goal.returns
returns c = c.is_from_to.ensures ∙ ap is_body (back c.before.args.body c.before.ranges.body)
