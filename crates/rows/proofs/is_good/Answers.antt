-- `is_good` tells whether fields are those of a row of status 0.
-- The definition's four tests, each of a field as the machine reads it back; that of the status is on bits (Same).
use borrow.Author.Rules.{rules}
use mathlib.Core.Path.{◌≡◌}
use native.Mathlib.Omega.{arith}
use lib.IntN.{pos}
use mir.Syntax.{w64}
use mir.Val.{SFits}
use Rattle.integers.proofs.Cast.{read}
use Rattle.integers.proofs.Same.{bits_tell}
use Rattle.tables.specs.Table.{interval_of}
use Rattle.rows.specs.Fields.{is_good}
use Rattle.rows.proofs.is_good.Goals as goal
use Rattle.rows.proofs.is_good.Goals.{Start}

read_back : (c : Start) → let r = c.args.row in (read r.body ≡ r.body) × (read r.frame ≡ r.frame) × (read r.minutes ≡ r.minutes) × SFits w64 r.status
read_back c = search rules

pub returns : goal.returns
unfolding is_good interval_of
returns c =
    let back = read_back (goal.at.returns c).Start in
    simp (
      bits_tell c.args.row.status (pos 0) back.3 (record { sfits = omega arith }),
      c.is_body.ensures,
      back.0,
      c.is_from_to.ensures,
      back.1,
      c.is_from_to-2.ensures,
      c.interval_of-interval.ensures,
      back.2,
    )
