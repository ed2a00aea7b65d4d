-- `is_off` tells whether a coordinate of the row is further from ours than allowed.
-- The definition's three tests, each of a field as the machine reads it back.
use borrow.Author.Rules.{rules}
use mathlib.Core.Path.{◌≡◌}
use Rattle.integers.proofs.Cast.{read}
use Rattle.marking.proofs.is_off.Goals as goal
use Rattle.marking.proofs.is_off.Goals.{Start}

row_read : (c : Start) → let r = c.args.row in (read r.x ≡ r.x) × (read r.y ≡ r.y) × (read r.z ≡ r.z)
row_read c = search rules

ours_read : (c : Start) → let p = c.args.ours in (read p.x ≡ p.x) × (read p.y ≡ p.y) × (read p.z ≡ p.z)
ours_read c = search rules

pub returns : goal.returns
returns c =
    let y = c.before.before.before in
    let x = y.before.before.before in
    let r = row_read x.before.before.before in
    let p = ours_read x.before.before.before in
    simp (x.is_further.ensures, y.is_further-2.ensures, c.is_further-3.ensures, r.0, r.1, r.2, p.0, p.1, p.2)
