-- `minute_of_fields` is the minute of the double that has these fields.
-- Below 2^-12 days by `small_minute`; else 1440 d is parts over a power of two (`near_minute`), rounded, less the days to JD 0.0.
use mathlib.Core.Bool.{Bool, true, false}
use mathlib.Core.Path.{sym, ap, subst, ◌∙◌}
use Prim.Native.Nat.{ℕ, ◌+◌, ◌-◌, ◌*◌, ◌^◌, ◌≤◌, ◌<◌}
use native.Mathlib.Omega.{arith}
use lib.IntN.{ℤ, pos}
use lib.Pow.{pow_mono}
use Rattle.integers.specs.Range.{Within}
use Rattle.integers.proofs.Cast.{read}
use Rattle.integers.proofs.Number.{Num, got, lit, sub, sub_fits, w_neg, w_mul, w_add, w_lit, w_floor_any}
use Rattle.dates.specs.Reach.{RoundFits}
use Rattle.integers.specs.Sign.{signed}
use Rattle.integers.specs.Floor.{rounded}
use Rattle.dates.proofs.Fields.{near_minute, small_minute}
use Rattle.dates.proofs.minute_of_fields.Goals as goal
use Rattle.dates.proofs.minute_of_fields.Goals.{After-rounded, After-with_sign, Start}
use Rattle.std.specs.Prelude.{Some}

-- ---- the numbers on the way, with their bounds
signed_within : (s : Bool) {n m : ℕ} → n ≤ m → Within m (signed s n)
signed_within false h = record { within = h }
signed_within true {n} h = w_neg {a = pos n} (record { within = h })

rounded_within : {a : ℤ} {v : ℕ} → RoundFits a v → Within 1387108685230112768 (rounded a (2 ^ v))
rounded_within {a} {v} f =
    w_floor_any (2 * 2 ^ v) (w_add (w_mul (w_lit (pos 2)) f.number) (record { within = pow_mono f.power }))

parts_most : (t : ℕ) → t < 2 ^ 52 → 45 * (2 ^ 52 + t) ≤ 405323966463344640
parts_most t h = omega arith

-- 1440 d is these parts over this power of two
abbrev parts : Start → ℤ
parts s = signed s.args.negative (45 * (2 ^ 52 + s.args.t))

abbrev power : Start → ℕ
power s = 1070 - s.args.x

with_sign_is : (c : After-with_sign) → Num (read c.with_sign.result) (parts c.before.before) 405323966463344640
with_sign_is c =
    let s = c.before.before in
    got c.with_sign.type_inv c.with_sign.ensures (signed_within s.args.negative (parts_most s.args.t s.requires.digits))

round_fits : (c : After-with_sign) → RoundFits (parts c.before.before) (power c.before.before)
round_fits c = record { number = (with_sign_is c).small; power = omega (arith, c.before.if-x-lt1011.false) }

rounded_is : (c : After-rounded) → Num (read c.rounded.result) (rounded (parts c.before.before.before) (2 ^ power c.before.before.before)) 1387108685230112768
rounded_is c =
    let v = power c.before.before.before in
    got c.rounded.type_inv (c.rounded.ensures ∙ ap (λ (a : ℤ). rounded a (2 ^ v)) (with_sign_is c.before).is) (rounded_within (round_fits c.before))

pub returns-then-x-lt1011 : goal.returns-then-x-lt1011
returns-then-x-lt1011 c = let s = c.before in small_minute s.args.negative s.args.x s.args.t c.if-x-lt1011.true s.requires.digits

pub rounded-requires : goal.rounded-requires
rounded-requires c = subst (λ (a : ℤ). RoundFits a (power c.before.before)) (sym (with_sign_is c).is) (round_fits c)

pub overflow_sub-result-2 : goal.overflow_sub-result-2
overflow_sub-result-2 c = sub_fits (rounded_is c) (lit (pos 3530224800)) tt

pub returns : goal.returns
returns c =
    let s = c.before.before.before in
    near_minute s.args.negative s.args.x s.args.t c.before.before.if-x-lt1011.false s.requires.near
    ∙ ap Some (sym (sub (rounded_is c) (lit (pos 3530224800)) tt).is)
