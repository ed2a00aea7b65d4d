-- `put_number` leaves a minus sign, where there is one, and the digits of the size, at most 20 bytes.
-- By the sign; the digits are put behind it.
use mathlib.Core.List.{List}
use mathlib.Core.Path.{sym, subst}
use Prim.Native.Nat.{ℕ}
use native.Mathlib.Omega.{arith}
use lib.IntN.{pos}
use lib.Signed.{◌≤ℤ◌, ◌<ℤ◌}
use Rattle.integers.proofs.Number.{lit, arg, w_lit, less, not_less}
use Rattle.listing_lines.specs.Put.{Put}
use Rattle.listing_lines.proofs.Puts.{put_then}
use Rattle.listing_lines.proofs.Sizes.{size_short, with_minus, without}
use Rattle.listing_lines.proofs.put_number.Goals as goal
use Rattle.listing_lines.proofs.put_number.Goals.{Else-z-lt0, Then-z-lt0}

negative : (c : Then-z-lt0) → c.args.z <ℤ pos 0
negative c = less (arg c.ranges.z (w_lit c.args.z)) (lit (pos 0)) c.if-z-lt0.true

not_negative : (c : Else-z-lt0) → pos 0 ≤ℤ c.args.z
not_negative c = not_less (arg c.ranges.z (w_lit c.args.z)) (lit (pos 0)) c.if-z-lt0.false

pub put_decimal-requires : goal.put_decimal-requires
put_decimal-requires c =
    omega (arith, size_short c.args.z c.size.result c.ranges.z c.size.ensures, c.put_byte-next.ensures.next, c.put_byte-next.auto.bytes, c.requires)

pub returns-then-z-lt0 : goal.returns-then-z-lt0
returns-then-z-lt0 c =
    let short = size_short c.args.z c.size.result c.ranges.z c.size.ensures in (
      subst (λ (l : List ℕ). Put c.args.at l c.args.bytes.now c.put_decimal.new.bytes c.put_decimal.result)
          (sym (with_minus c.args.z c.size.result c.ranges.z (negative (goal.at.returns-then-z-lt0 c).Then-z-lt0) c.size.ensures))
          (put_then (omega (arith, c.requires)) c.put_byte-next.ensures c.put_decimal.ensures),
      omega (arith, short, c.put_byte-next.ensures.next, c.put_decimal.ensures.next),
    )

pub put_decimal-requires-2 : goal.put_decimal-requires-2
put_decimal-requires-2 c = omega (arith, size_short c.args.z c.size-2.result c.ranges.z c.size-2.ensures, c.requires)

pub returns : goal.returns
returns c =
    let short = size_short c.args.z c.size-2.result c.ranges.z c.size-2.ensures in (
      subst (λ (l : List ℕ). Put c.args.at l c.args.bytes.now c.put_decimal-2.new.bytes c.put_decimal-2.result)
          (sym (without c.args.z c.size-2.result c.ranges.z (not_negative (goal.at.returns c).Else-z-lt0) c.size-2.ensures))
          c.put_decimal-2.ensures,
      omega (arith, short, c.put_decimal-2.ensures.next),
    )
