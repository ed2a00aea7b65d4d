-- What a body has at a moment is in range: its row, the numbers of its further terms, its elements, and what is added to its mean anomaly.
-- The laws of `Rows` and `Terms`, at a moment, whose minute lies in its table's interval, and at a body, which has a number from 1 to 9.
use mathlib.Core.Path.{◌≡◌, subst₂, sym}
use lib.IntN.{ℤ, pos}
use mathlib.Core.List.{List}
use mir.Syntax.{w64}
use mir.Val.{of_z}
use Rattle.integers.specs.Range.{Within}
use Rattle.integers.proofs.Cast.{read}
use Rattle.integers.proofs.Number.{w_fits}
use Rattle.tables.specs.declared.Body.{Body}
use Rattle.tables.specs.declared.Moment.{Moment}
use Rattle.tables.specs.Table.{table_row, table_terms}
use Rattle.tables.specs.Bodies.{body_number}
use Rattle.tables.proofs.Laws.{covered_read, table_read, table_within}
use Rattle.tables.proofs.Bodies.{body_known}
use Rattle.orbits.specs.Elements.{elements_at, extra_of}
use Rattle.orbits.specs.Range.{RowFits, TermsFit, ElementsFit}
use Rattle.orbits.proofs.Rows.{table_row_fits, table_terms_fit, table_elements_fit}
use Rattle.orbits.proofs.Terms.{extra_within, none_by_bits}

module _ (moment : Moment) (body : Body) where
  abbrev row : List ℤ
  row = table_row moment.table (body_number body)

  abbrev terms : List ℤ
  terms = table_terms moment.table (body_number body)

  -- the row and the terms that the machine names, reading the table's number back
  pub row_read : table_row (read moment.table) (body_number body) ≡ row
  row_read i = table_row (table_read moment.on_table i) (body_number body)

  pub terms_read : table_terms (read moment.table) (body_number body) ≡ terms
  terms_read i = table_terms (table_read moment.on_table i) (body_number body)

  pub minute_read : read moment.minute ≡ moment.minute
  minute_read = covered_read moment.on_table

  pub row_fits : RowFits (table_row (read moment.table) (body_number body)) (read moment.minute)
  row_fits = subst₂ RowFits (sym row_read) (sym minute_read) (table_row_fits moment.table (body_number body) moment.minute (body_known body) moment.on_table)

  pub terms_fit : TermsFit (table_terms (read moment.table) (body_number body)) (read moment.minute)
  terms_fit = subst₂ TermsFit (sym terms_read) (sym minute_read) (table_terms_fit moment.table (body_number body) moment.minute (body_known body) moment.on_table)

  pub elements_fit : ElementsFit (elements_at row moment.minute)
  elements_fit = table_elements_fit moment.table (body_number body) moment.minute (body_known body) moment.on_table

  pub extra_fits : Within 1000000000000000000 (extra_of terms moment.minute)
  extra_fits = extra_within (table_terms_fit moment.table (body_number body) moment.minute (body_known body) moment.on_table)

  -- Table 1, told by its bits, adds nothing
  pub none_added : of_z w64 moment.table ≡ 1 → pos 0 ≡ extra_of terms moment.minute
  none_added e = sym (none_by_bits (body_number body) moment.minute (w_fits (table_within moment.on_table) tt) e)
