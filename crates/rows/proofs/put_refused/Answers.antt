-- `put_refused` leaves the bytes of a refused row, and every byte after them as it was.
-- The row that it makes has the refusal's number and zeros, and its bytes are the definition's (RoundTrip).
use mathlib.Core.Path.{◌∙◌}
use Rattle.integers.proofs.Cast.{back_ok}
use Rattle.rows.proofs.RoundTrip.{a_refused_row_is_a_row_of_zeros}
use Rattle.rows.proofs.put_refused.Goals as goal

pub returns : goal.returns
returns c =
    let zeros = c.default.ensures in
    simp (
      c.put_row.ensures,
      back_ok c.number.result c.number.type_inv ∙ c.number.ensures,
      zeros.1.0,
      zeros.1.1.0,
      zeros.1.1.1.0,
      zeros.1.1.1.1.0,
      zeros.1.1.1.1.1.0,
      zeros.1.1.1.1.1.1,
      a_refused_row_is_a_row_of_zeros,
    )
