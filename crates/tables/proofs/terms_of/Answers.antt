-- `terms_of` gives the b, c, s and f of a body by a table.
-- By the test whether Table 1 is named, which has none.
use mathlib.Core.Bool.{Bool}
use mathlib.Core.Path.{sym, ap, ◌∙◌}
use Prim.Native.Nat.{◌-◌}
use lib.IntN.{nat_abs}
use lib.ListN.{get_or}
use Rattle.integers.proofs.Same.{is_written, is_other}
use Rattle.tables.specs.Table.{no_terms, terms_if, table_terms}
use Rattle.tables.specs.Bodies.{body_number}
use Rattle.tables.proofs.terms_of.Goals as goal

pub returns-then-table-eq1 : goal.returns-then-table-eq1
unfolding table_terms
returns-then-table-eq1 c = sym (ap (λ (b : Bool). get_or (terms_if b) (nat_abs (body_number c.args.body) - 1) no_terms) (is_written c.ranges.table 1 tt c.if-table-eq1.true))

pub returns : goal.returns
unfolding table_terms
returns c = c.terms2_of.ensures ∙ sym (ap (λ (b : Bool). get_or (terms_if b) (nat_abs (body_number c.args.body) - 1) no_terms) (is_other c.ranges.table 1 tt c.if-table-eq1.false))
