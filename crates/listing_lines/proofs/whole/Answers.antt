-- `whole` puts the sign before the number of the digits, where they are one.
-- Ten digits stand for a number below 10^10.
use mathlib.Core.Path.{sym}
use native.Mathlib.Omega.{arith}
use Rattle.listing_lines.proofs.Scan.{digits_small}
use Rattle.listing_lines.proofs.whole.Goals as goal

pub with_sign-requires : goal.with_sign-requires
with_sign-requires c = omega (arith, digits_small c.args.text.now c.in_ok-n.n (sym c.in_ok-n.ensures))
