-- `minute_of_julian` is the minute of a Julian date, as it is carried; none where the date is not finite.
-- The double is its fields (`by_fields`); from 2^48 days on its minute is beyond 10^14 (`far_minute`).
use mathlib.Core.Path.{◌≡◌, sym, ap, subst, ◌∙◌}
use Prim.Native.Nat.{ℕ, ◌<◌}
use native.Mathlib.Omega.{arith}
use lib.Dec.{T}
use lib.Ieee.{binary64, of_fields}
use Rattle.integers.proofs.Cast.{back_ok}
use Rattle.dates.specs.Minute.{minute_of_julian}
use Rattle.dates.specs.Reach.{clamped, held}
use Rattle.dates.proofs.Fields.{negative, exponent, digits, digits_below, exponent_below, by_fields, far_minute, no_minute, nan_minute, no_nan}
use Rattle.dates.proofs.minute_of_julian.Goals as goal
use Rattle.dates.proofs.minute_of_julian.Goals.{Start}
use Rattle.std.specs.Prelude.{Some}

-- the argument is a double, so it is its fields
fields : (c : Start) → c.args.d ≡ of_fields binary64 (negative c.args.d) (exponent c.args.d) (digits c.args.d)
fields c = by_fields c.args.d (subst T (sym c.well_formed.0.1) tt)

-- past the field of ones the double is finite
finite : (x : ℕ) → x < 2048 → (x ≡ 2047 → ⊥) → x < 2047
finite x h n = omega arith

pub returns-then-is_nan : goal.returns-then-is_nan
returns-then-is_nan c = sym (ap held (nan_minute c.args.d (sym c.is_nan.ensures.value ∙ c.if-is_nan.true)))

pub float_to_bits-b : goal.float_to_bits-b
float_to_bits-b c = no_nan c.args.d (sym c.is_nan.ensures.value ∙ c.if-is_nan.false)

pub returns-then-x-eq2047 : goal.returns-then-x-eq2047
returns-then-x-eq2047 c =
    let s = c.before.before.before in
    let d = s.args.d in
    let e = ap (λ (x : ℕ). of_fields binary64 (negative d) x (digits d)) c.if-x-eq2047.true in
    sym (ap (λ f. held (minute_of_julian f)) (fields s ∙ e) ∙ ap held (no_minute (negative d) (digits d)))

pub returns-then-x-gt1070 : goal.returns-then-x-gt1070
returns-then-x-gt1070 c =
    let e = c.before in
    let s = e.before.before.before.before in
    let d = s.args.d in
    let l = finite (exponent d) (exponent_below d) e.before.if-x-eq2047.false in
    ap Some (back_ok c.with_sign.result c.with_sign.type_inv ∙ c.with_sign.ensures)
    ∙ sym (ap (λ f. held (minute_of_julian f)) (fields s) ∙ far_minute (negative d) (exponent d) (digits d) e.if-x-gt1070.true l)

pub minute_of_fields-requires : goal.minute_of_fields-requires
minute_of_fields-requires c = record { near = omega arith; digits = digits_below c.args.d }

pub returns : goal.returns
returns c =
    let m = c.before in
    let s = m.before.before.before.before.before in
    ap Some (back_ok c.clamped.result c.clamped.type_inv ∙ c.clamped.ensures ∙ ap clamped (back_ok m.minute_of_fields.result m.minute_of_fields.type_inv))
    ∙ sym (ap (λ f. held (minute_of_julian f)) (fields s) ∙ ap held m.minute_of_fields.ensures)
