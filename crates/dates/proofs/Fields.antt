-- The minute of a double by the fields of its bits: sign s, exponent x, digits t.
-- A double is the fraction that its fields say, and rounding goes by the fraction's value (integers, Rounding): near, small or far.
use lib.Signed.{◌≤ℤ◌, lt_z}
use mathlib.Core.Bool.{Bool, true, false, not, cond}
use mathlib.Core.Path.{◌≡◌, refl, sym, ap, subst, ◌∙◌}
use Prim.Native.Nat.{ℕ, zero, suc, ◌+◌, ◌-◌, ◌*◌, ◌/◌, ◌%◌, ◌^◌, ◌≤◌, ◌<◌}
use native.Mathlib.Nat as NatL
use native.Mathlib.Omega.{arith}
use borrow.Author.Tests.{ne_eqb}
use lib.Bits.{bit_and, and_mask}
use lib.Dec.{T, eqb, leb}
use lib.IntN.{ℤ, pos, negsuc, ◌-ℤ◌, ◌*ℤ◌, neg_ℤ}
use lib.Ieee.{Float, nan, inf, fin, binary64, up, down, of_fields, of_bits, to_bits, fits, is_nan}
use lib.Ieee.Bits.{of_bits-to_bits}
use lib.Ieee.Exact.{HasValue, odd_sign}
use lib.Ieee.Fits.{down_pos}
use lib.Pow.{pow-add, pow_pos, pow_mono, field}
use Rattle.integers.proofs.Difference.{d_minus, zarith, ext, d_mul, eq_d}
use Rattle.integers.specs.Sign.{signed}
use Rattle.dates.specs.Minute.{julian_minute, minute_of_julian}
use Rattle.dates.specs.Reach.{clamped, held}
use Rattle.integers.specs.Floor.{rounded}
use Rattle.integers.proofs.Rounding.{signed_times, rounded_same, rounded_less, rounded_small, rounded_above, rounded_below}
use Rattle.std.specs.Prelude.{None, Option, Some}

-- the minute that is z minutes from JD 0.0
abbrev pub from_zero : ℤ → Option ℤ
from_zero z = Some (z -ℤ pos 3530224800)

-- the minute of ±n / k: 2451545 days of 1440 minutes go out of it
minute_is : (s : Bool) (n k : ℕ) → 0 < k → julian_minute s n k ≡ rounded (signed s (n * 1440)) k -ℤ pos 3530224800
unfolding julian_minute
minute_is s n k h =
    let z = signed s n -ℤ pos (2451545 * k) in
    let y = signed s (n * 1440) in
    let w = pos (3530224800 * k) in
    let e : z *ℤ pos 1440 ≡ y -ℤ w =
    ext (z *ℤ pos 1440) (y -ℤ w)
    (omega (arith, d_mul z (pos 1440), d_minus (signed s n) (pos (2451545 * k)), d_minus y w, eq_d _ _ (signed_times s n 1440), d_mul (signed s n) (pos 1440))) in
    ap (λ (z : ℤ). rounded z k) e ∙ rounded_less y 3530224800 k h

-- ---- the minute of a double of the value ±n / k
minute_of_value : (d : Float) (s : Bool) (n k : ℕ) → HasValue d s n k → 0 < k → minute_of_julian d ≡ from_zero (rounded (signed s (n * 1440)) k)
unfolding minute_of_julian
minute_of_value nan s n k h g = absurd h
minute_of_value (inf t) s n k h g = absurd h
minute_of_value (fin t m i) s n k h g =
    let e : m * up i * 1440 * k ≡ n * 1440 * down i = omega (arith, h.1) in
    ap Some (minute_is t (m * up i) (down i) (down_pos i))
    ∙ ap (λ (r : Bool). from_zero (rounded (signed r (m * up i * 1440)) (down i))) h.0
    ∙ ap from_zero (rounded_same s (m * up i * 1440) (n * 1440) (down i) k (down_pos i) g e)

-- ---- the value of fields: the digits have a leading one, of weight 2^52, but where x is 0
abbrev led : ℕ → ℕ → ℕ
led zero t = t
led (suc x) t = 2 ^ 52 + t

-- the size of a double, in units of 2^-1074
abbrev units : ℕ → ℕ → ℕ
units x t = led x t * 2 ^ (x - 1)

fields_value : (s : Bool) (x t : ℕ) → x < 2047 → HasValue (of_fields binary64 s x t) s (units x t) (2 ^ 1074)
unfolding of_fields
fields_value s zero t h = odd_sign 53 s t 0 1074
fields_value s (suc x) t h =
    let e : suc x - 1 ≡ x = omega arith in
    let n : suc x ≡ 2047 → ⊥ = λ (p : suc x ≡ 2047). omega arith in
    rw (ne_eqb (suc x) 2047 n, e) (odd_sign 53 s (2 ^ 52 + t) x 1074)

minute_of_fields : (s : Bool) (x t : ℕ) → x < 2047 → minute_of_julian (of_fields binary64 s x t) ≡ from_zero (rounded (signed s (units x t * 1440)) (2 ^ 1074))
minute_of_fields s x t h = minute_of_value (of_fields binary64 s x t) s (units x t) (2 ^ 1074) (fields_value s x t h) (pow_pos 1074)

-- ---- from 2^-12 days up to 2^48 days, either way, 1440 d is 45 (2^52 + t) / 2^(1070 - x), since 1440 = 45·2^5
reduced : (m a b c : ℕ) → a * b ≡ c → m * a * 1440 * b ≡ 45 * m * (32 * c)
reduced m a b c e = omega (arith, ap (λ (n : ℕ). m * n) e)

near_value : (x t : ℕ) → 1011 ≤ x → x ≤ 1070 → units x t * 1440 * 2 ^ (1070 - x) ≡ 45 * (2 ^ 52 + t) * 2 ^ 1074
near_value zero t h g = absurd (omega arith)
near_value (suc x) t h g =
    let e : suc x - 1 + (1070 - suc x) ≡ 1069 = omega arith in
    reduced (2 ^ 52 + t) (2 ^ (suc x - 1)) (2 ^ (1070 - suc x)) (2 ^ 1069) (sym (pow-add 2 (suc x - 1) (1070 - suc x)) ∙ ap (λ (n : ℕ). 2 ^ n) e)

pub near_minute : (s : Bool) (x t : ℕ) → 1011 ≤ x → x ≤ 1070 → minute_of_julian (of_fields binary64 s x t) ≡ from_zero (rounded (signed s (45 * (2 ^ 52 + t))) (2 ^ (1070 - x)))
near_minute s x t h g =
    let l : x < 2047 = omega arith in
    minute_of_fields s x t l
    ∙ ap from_zero (rounded_same s (units x t * 1440) (45 * (2 ^ 52 + t)) (2 ^ 1074) (2 ^ (1070 - x)) (pow_pos 1074) (pow_pos (1070 - x)) (near_value x t h g))

-- ---- below 2^-12 days it is under half a minute from JD 0.0
led_most : (x t : ℕ) → t < 2 ^ 52 → led x t ≤ 2 ^ 53
led_most zero t h = omega arith
led_most (suc x) t h = omega arith

under_half : (m a b : ℕ) → m ≤ 2 ^ 53 → a ≤ b → 0 < b → 2 * (m * a * 1440) < 2 ^ 65 * b
under_half m a b h g p = omega (arith, NatL.mul-le-mul h g)

pub small_minute : (s : Bool) (x t : ℕ) → x < 1011 → t < 2 ^ 52 → minute_of_julian (of_fields binary64 s x t) ≡ from_zero (pos 0)
small_minute s x t h g =
    let l : x < 2047 = omega arith in
    let e : x - 1 ≤ 1009 = omega arith in
    let u = under_half (led x t) (2 ^ (x - 1)) (2 ^ 1009) (led_most x t g) (pow_mono e) (pow_pos 1009) in
    minute_of_fields s x t l ∙ ap from_zero (rounded_small s (units x t * 1440) (2 ^ 1074) u)

-- ---- from 2^48 days on the minute is far off
led_least : (x t : ℕ) → 0 < x → 2 ^ 52 ≤ led x t
led_least zero t h = absurd (omega arith)
led_least (suc x) t h = omega arith

over : (m a b : ℕ) → 2 ^ 52 ≤ m → b ≤ a → 2 ^ 48 * (16 * b) ≤ m * a * 1440
over m a b h g = omega (arith, NatL.mul-le-mul h g)

-- a minute beyond 10^14 is carried as that end
clamp_above : (z : ℤ) → pos 100000000000000 ≤ℤ z → clamped z ≡ pos 100000000000000
clamp_above z h = go (lt_z z (negsuc 99999999999999)) (lt_z (pos 100000000000000) z) refl refl
  where
    go : (a b : Bool) → lt_z z (negsuc 99999999999999) ≡ a → lt_z (pos 100000000000000) z ≡ b → cond a (negsuc 99999999999999) (cond b (pos 100000000000000) z) ≡ pos 100000000000000
    go true b e f = absurd (omega (zarith, h))
    go false true e f = refl
    go false false e f = omega (zarith, h)

clamp_below : (z : ℤ) → z ≤ℤ negsuc 99999999999999 → clamped z ≡ negsuc 99999999999999
clamp_below z h = go (lt_z z (negsuc 99999999999999)) (lt_z (pos 100000000000000) z) refl refl
  where
    go : (a b : Bool) → lt_z z (negsuc 99999999999999) ≡ a → lt_z (pos 100000000000000) z ≡ b → cond a (negsuc 99999999999999) (cond b (pos 100000000000000) z) ≡ negsuc 99999999999999
    go true b e f = refl
    go false true e f = absurd (omega (zarith, h))
    go false false e f = omega (zarith, h)

far_is : (s : Bool) (n k : ℕ) → 0 < k → 2 ^ 48 * k ≤ n → clamped (rounded (signed s n) k -ℤ pos 3530224800) ≡ signed s 100000000000000
far_is false n k h g =
    let z = rounded (pos n) k in
    let l = rounded_above n k (2 ^ 48) h g in
    clamp_above (z -ℤ pos 3530224800) (omega (zarith, l, d_minus z (pos 3530224800)))
far_is true n k h g =
    let z = rounded (neg_ℤ (pos n)) k in
    let l = rounded_below n k (2 ^ 48) h g in
    clamp_below (z -ℤ pos 3530224800) (omega (zarith, l, d_minus z (pos 3530224800)))

pub far_minute : (s : Bool) (x t : ℕ) → 1070 < x → x < 2047 → held (minute_of_julian (of_fields binary64 s x t)) ≡ Some (signed s 100000000000000)
far_minute s x t h l =
    let p : 0 < x = omega arith in
    let e : 1070 ≤ x - 1 = omega arith in
    let u = over (led x t) (2 ^ (x - 1)) (2 ^ 1070) (led_least x t p) (pow_mono e) in
    ap held (minute_of_fields s x t l) ∙ ap Some (far_is s (units x t * 1440) (2 ^ 1074) (pow_pos 1074) u)

-- ---- no number: the field of ones, and what is not a number
pub no_minute : (s : Bool) (t : ℕ) → minute_of_julian (of_fields binary64 s 2047 t) ≡ None
unfolding of_fields minute_of_julian
no_minute s t = go (eqb t 0)
  where
    go : (b : Bool) → minute_of_julian (cond b (inf s) nan) ≡ None
    go true = refl
    go false = refl

pub nan_minute : (d : Float) → is_nan d ≡ true → minute_of_julian d ≡ None
unfolding minute_of_julian is_nan
nan_minute nan h = refl
nan_minute (inf s) h = absurd (subst T (sym h) tt)
nan_minute (fin s m e) h = absurd (subst T (sym h) tt)

pub no_nan : (d : Float) → is_nan d ≡ false → T (not (is_nan d))
no_nan d h = subst (λ (b : Bool). T (not b)) (sym h) tt

-- ---- a double by the fields that the code cuts out of its bits
of_bits_lem : (b : ℕ) → of_bits binary64 b ≡ of_fields binary64 (leb (2 ^ 63) b) (b % 2 ^ 63 / 2 ^ 52) (b % 2 ^ 52)
unfolding of_bits
of_bits_lem b = refl

module _ (d : Float) where
  abbrev pub negative : Bool
  negative = leb (2 ^ 63) (to_bits binary64 d)

  abbrev pub exponent : ℕ
  exponent = bit_and (to_bits binary64 d / 2 ^ 52) 2047

  abbrev pub digits : ℕ
  digits = bit_and (to_bits binary64 d) 0xf_ffff_ffff_ffff

  pub digits_below : digits < 2 ^ 52
  digits_below = rw (and_mask (to_bits binary64 d) 52) (NatL.mod-lt (to_bits binary64 d) (pow_pos 52))

  pub exponent_below : exponent < 2048
  exponent_below = rw (and_mask (to_bits binary64 d / 2 ^ 52) 11) (NatL.mod-lt (to_bits binary64 d / 2 ^ 52) (pow_pos 11))

  pub by_fields : T (fits binary64 d) → d ≡ of_fields binary64 negative exponent digits
  by_fields f =
      let b = to_bits binary64 d in
      sym (of_bits-to_bits binary64 d f) ∙ of_bits_lem b ∙ (λ i. of_fields binary64 negative ((field b 11 52 ∙ sym (and_mask (b / 2 ^ 52) 11)) i) (sym (and_mask b 52) i))
