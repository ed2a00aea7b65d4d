-- `put_field` leaves a number and the byte that ends it.
-- One lot of bytes behind another.
use mathlib.Core.List.{[], ◌∷◌, ◌++◌}
use mathlib.Core.Path.{subst}
use native.Mathlib.Omega.{arith}
use lib.IntN.{ℤ}
use Rattle.integers.proofs.Cast.{back}
use Rattle.listing_lines.specs.Decimal.{signed_of}
use Rattle.listing_lines.specs.Put.{Put}
use Rattle.listing_lines.proofs.Puts.{put_then}
use Rattle.listing_lines.proofs.put_field.Goals as goal

pub returns : goal.returns
returns c = (
  subst (λ (z : ℤ). Put c.args.at (signed_of z ++ (c.args.end ∷ [])) c.args.bytes.now c.put_byte.new.bytes c.put_byte.result)
      (back c.args.z c.ranges.z)
      (put_then (omega (arith, c.requires)) c.put_number-next.ensures.0 c.put_byte.ensures),
  omega (arith, c.put_byte.ensures.next, c.put_number-next.ensures.1),
)
