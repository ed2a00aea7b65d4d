-- `put_decimal` puts the digits of a number's tenth first, and its last digit behind them.
-- A tenth is smaller, and has one digit less; one lot of bytes behind another.
use mathlib.Core.List.{List, [], ◌∷◌, ◌++◌}
use mathlib.Core.Path.{sym, ap, subst, ◌∙◌}
use native.Mathlib.Omega.{arith}
use lib.ListN.{length}
use Prim.Native.Nat.{ℕ, ◌/◌}
use Rattle.listing_lines.specs.Decimal.{decimal_of}
use Rattle.listing_lines.specs.Put.{Put}
use Rattle.listing_lines.proofs.Decimals.{one_digit, more_digits, more_length, tenth_less}
use Rattle.listing_lines.proofs.Puts.{put_then}
use Rattle.listing_lines.proofs.+put_decimal.Goals as goal

pub put_byte-requires : goal.put_byte-requires
put_byte-requires t c = omega (arith, ap length (one_digit c.args.n c.if-n-lt10.true), c.requires)

pub returns-then-n-lt10 : goal.returns-then-n-lt10
returns-then-n-lt10 t c =
    subst (λ (l : List ℕ). Put c.args.at l c.args.bytes.now c.put_byte.new.bytes c.put_byte.result)
    (ap (λ (b : ℕ). b ∷ []) c.digit_byte.ensures ∙ sym (one_digit c.args.n c.if-n-lt10.true))
    c.put_byte.ensures

pub put_decimal-next-requires : goal.put_decimal-next-requires
put_decimal-next-requires t c =
    (omega (arith, tenth_less c.args.n c.if-n-lt10.false), omega (arith, c.requires, more_length c.args.n c.if-n-lt10.false))

pub put_byte-requires-2 : goal.put_byte-requires-2
put_byte-requires-2 t c =
    omega (arith, c.put_decimal-next.ensures.next, c.put_decimal-next.auto.bytes, c.requires, more_length c.args.n c.if-n-lt10.false)

pub returns : goal.returns
returns t c =
    let n = c.args.n in
    subst (λ (l : List ℕ). Put c.args.at l c.args.bytes.now c.put_byte-2.new.bytes c.put_byte-2.result)
    (ap (λ (b : ℕ). decimal_of (n / 10) ++ (b ∷ [])) c.digit_byte-2.ensures ∙ sym (more_digits n c.if-n-lt10.false))
    (put_then (omega (arith, c.requires)) c.put_decimal-next.ensures c.put_byte-2.ensures)
