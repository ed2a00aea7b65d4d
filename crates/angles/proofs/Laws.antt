-- The laws of the sine at every angle: period, sin(-t) = -sin t, sin(180° - t) = sin t, its size, and neighbours that differ by at most 18.
-- They are shown of `turn_sine`, the sine over a turn with no sign, by omega, and carried to `sine_of` by one link, `sine_is`.
use mathlib.Core.Bool.{Bool, cond}
use mathlib.Core.Path.{◌≡◌, refl, sym, ap, ◌∙◌}
use Prim.Native.Nat.{ℕ, suc, ◌+◌, ◌-◌, ◌%◌, ◌≤◌, ◌<◌}
use native.Mathlib.Decide.{dec_lt}
use native.Mathlib.Omega.{arith}
use lib.Dec.{leb}
use lib.IntN.{ℤ, pos, negsuc, neg_ℤ, nat_abs, sub_ℕ, ◌+ℤ◌, ◌-ℤ◌, ◌*ℤ◌, neg_ℤ-neg_ℤ, +ℤ_comm}
use borrow.Author.Tests.{le-leb, lt-leb}
use lib.Signed.{lt_z}
use Rattle.integers.specs.Range.{Within, apart}
use Rattle.integers.specs.Sign.{signed}
use Rattle.integers.proofs.Ring.{sub_ge, sub_shift, neg_is, abs_sub, abs_neg}
use Rattle.angles.specs.Unit.{one_turn}
use Rattle.angles.specs.Sine.{half_sine, with_sign_of, sine_of, cosine_of}
use Rattle.angles.proofs.Steps.{half_top, half_zero, half_mirror, half_step, half_past}
use Rattle.angles.proofs.Turns.{turn, turn_below, turn_add, turn_neg, one_turn_first, one_turn_second, one_turn_again, one_turn_turns}

-- the machine's sign before a size is the definition's
pub by_sign : (t : ℤ) (s : ℕ) → signed (lt_z t (pos 0)) s ≡ with_sign_of t s
by_sign (pos t) s = ap (λ (b : Bool). signed b s) (lt-leb (suc t) 0 (omega arith))
by_sign (negsuc t) s = refl

-- ---- the sine over a turn with no sign
unfoldable pub turn_sine : ℕ → ℤ
turn_sine s = cond (leb s 180000000) (pos (half_sine s)) (neg_ℤ (pos (half_sine (s - 180000000))))

pub turn_sine_left : (s : ℕ) → s ≤ 180000000 → turn_sine s ≡ pos (half_sine s)
unfolding turn_sine
turn_sine_left s h = rw (le-leb s 180000000 h)

pub turn_sine_right : (s : ℕ) → 180000000 < s → turn_sine s ≡ neg_ℤ (pos (half_sine (s - 180000000)))
unfolding turn_sine
turn_sine_right s h = rw (lt-leb s 180000000 h)

half_end : half_sine 180000000 ≡ 0
half_end = half_mirror 0 (omega arith) ∙ half_zero

turn_sine_zero : turn_sine 0 ≡ pos 0
turn_sine_zero = turn_sine_left 0 (omega arith) ∙ ap pos half_zero

turn_sine_mid : turn_sine 180000000 ≡ pos 0
turn_sine_mid = turn_sine_left 180000000 (omega arith) ∙ ap pos half_end

-- ---- the link
pub sine_is : (t : ℤ) → sine_of t ≡ turn_sine (turn t)
unfolding sine_of
sine_is t = go (dec_lt (turn t) 180000000) (dec_lt 180000000 (turn t))
  where
    b : turn t < 360000000
    b = turn_below t

    go : Dec (turn t < 180000000) → Dec (180000000 < turn t) → with_sign_of (one_turn t) (half_sine (nat_abs (one_turn t))) ≡ turn_sine (turn t)
    go (yes l) d = ap (λ (z : ℤ). with_sign_of z (half_sine (nat_abs z))) (one_turn_first t l) ∙ sym (turn_sine_left (turn t) (omega arith))
    go (no l) (yes d) =
        let e : suc (359999999 - turn t) ≡ 180000000 - (turn t - 180000000) = omega (arith, b) in
        ap (λ (z : ℤ). with_sign_of z (half_sine (nat_abs z))) (one_turn_second t (omega arith))
        ∙ ap (λ (n : ℕ). neg_ℤ (pos n)) (ap half_sine e ∙ half_mirror (turn t - 180000000) (omega (arith, b)))
        ∙ sym (turn_sine_right (turn t) d)
    go (no l) (no d) =
        let f : turn t ≡ 180000000 = omega arith in
        let e : suc (359999999 - turn t) ≡ 180000000 = omega arith in
        ap (λ (z : ℤ). with_sign_of z (half_sine (nat_abs z))) (one_turn_second t (omega arith))
        ∙ ap (λ (n : ℕ). neg_ℤ (pos (half_sine n))) e ∙ ap (λ (n : ℕ). neg_ℤ (pos n)) half_end
        ∙ sym (ap turn_sine f ∙ turn_sine_mid)

-- ---- sin(-t) = -sin t
turn_sine_neg : (s : ℕ) → s < 360000000 → turn_sine ((360000000 - s) % 360000000) ≡ neg_ℤ (turn_sine s)
turn_sine_neg s h = go (dec_lt 0 s) (dec_lt s 180000000) (dec_lt 180000000 s)
  where
    go : Dec (0 < s) → Dec (s < 180000000) → Dec (180000000 < s) → turn_sine ((360000000 - s) % 360000000) ≡ neg_ℤ (turn_sine s)
    go (no a) b c =
        let e : s ≡ 0 = omega arith in
        rw e (turn_sine_zero ∙ sym (ap neg_ℤ turn_sine_zero))
    go (yes a) (yes b) c =
        let e : (360000000 - s) % 360000000 ≡ 360000000 - s = omega arith in
        let f : 360000000 - s - 180000000 ≡ 180000000 - s = omega arith in
        ap turn_sine e ∙ turn_sine_right (360000000 - s) (omega arith) ∙ ap (λ (n : ℕ). neg_ℤ (pos n)) (ap half_sine f ∙ half_mirror s (omega arith))
        ∙ sym (ap neg_ℤ (turn_sine_left s (omega arith)))
    go (yes a) (no b) (no c) =
        let e : s ≡ 180000000 = omega arith in
        rw e (turn_sine_mid ∙ sym (ap neg_ℤ turn_sine_mid))
    go (yes a) (no b) (yes c) =
        let e : (360000000 - s) % 360000000 ≡ 180000000 - (s - 180000000) = omega arith in
        ap turn_sine e ∙ turn_sine_left (180000000 - (s - 180000000)) (omega arith) ∙ ap pos (half_mirror (s - 180000000) (omega arith))
        ∙ sym (ap neg_ℤ (turn_sine_right s c) ∙ neg_ℤ-neg_ℤ (pos (half_sine (s - 180000000))))

pub sine_odd : (t : ℤ) → sine_of (neg_ℤ t) ≡ neg_ℤ (sine_of t)
sine_odd t = sine_is (neg_ℤ t) ∙ ap turn_sine (turn_neg t) ∙ turn_sine_neg (turn t) (turn_below t) ∙ sym (ap neg_ℤ (sine_is t))

-- sin (t + 180 degrees) = - sin t
turn_sine_half : (s : ℕ) → s < 360000000 → turn_sine ((s + 180000000) % 360000000) ≡ neg_ℤ (turn_sine s)
turn_sine_half s h = go (dec_lt 0 s) (dec_lt s 180000000) (dec_lt 180000000 s)
  where
    go : Dec (0 < s) → Dec (s < 180000000) → Dec (180000000 < s) → turn_sine ((s + 180000000) % 360000000) ≡ neg_ℤ (turn_sine s)
    go (no a) b c =
        let e : s ≡ 0 = omega arith in
        rw e (turn_sine_mid ∙ sym (ap neg_ℤ turn_sine_zero))
    go (yes a) (yes b) c =
        let e : (s + 180000000) % 360000000 ≡ s + 180000000 = omega arith in
        let f : s + 180000000 - 180000000 ≡ s = omega arith in
        ap turn_sine e ∙ turn_sine_right (s + 180000000) (omega arith) ∙ ap (λ (n : ℕ). neg_ℤ (pos (half_sine n))) f
        ∙ sym (ap neg_ℤ (turn_sine_left s (omega arith)))
    go (yes a) (no b) (no c) =
        let e : s ≡ 180000000 = omega arith in
        rw e (turn_sine_zero ∙ sym (ap neg_ℤ turn_sine_mid))
    go (yes a) (no b) (yes c) =
        let e : (s + 180000000) % 360000000 ≡ s - 180000000 = omega arith in
        ap turn_sine e ∙ turn_sine_left (s - 180000000) (omega arith)
        ∙ sym (ap neg_ℤ (turn_sine_right s c) ∙ neg_ℤ-neg_ℤ (pos (half_sine (s - 180000000))))

pub sine_half_turn : (t : ℤ) → sine_of (t +ℤ pos 180000000) ≡ neg_ℤ (sine_of t)
sine_half_turn t = sine_is (t +ℤ pos 180000000) ∙ ap turn_sine (turn_add t 180000000) ∙ turn_sine_half (turn t) (turn_below t) ∙ sym (ap neg_ℤ (sine_is t))

-- sin(180° - t) = sin t
pub sine_mirror : (t : ℤ) → sine_of (pos 180000000 -ℤ t) ≡ sine_of t
sine_mirror t =
    ap sine_of (+ℤ_comm (pos 180000000) (neg_ℤ t)) ∙ sine_half_turn (neg_ℤ t) ∙ ap neg_ℤ (sine_odd t) ∙ neg_ℤ-neg_ℤ (sine_of t)

-- whole turns more make no difference
pub sine_period : (t k : ℤ) → sine_of (t +ℤ k *ℤ pos 360000000) ≡ sine_of t
unfolding sine_of
sine_period t k = ap (λ (z : ℤ). with_sign_of z (half_sine (nat_abs z))) (one_turn_turns t k)

pub sine_of_one_turn : (t : ℤ) → sine_of (one_turn t) ≡ sine_of t
unfolding sine_of
sine_of_one_turn t = ap (λ (z : ℤ). with_sign_of z (half_sine (nat_abs z))) (one_turn_again t)

-- the cosine is the sine a quarter turn on
pub cosine_is : (t : ℤ) → cosine_of t ≡ sine_of (t +ℤ pos 90000000)
unfolding cosine_of
cosine_is t = refl

-- the sine, raised by 10^9
raised : ℕ → ℕ
raised s = 1000000000 + half_sine s - half_sine (s - 180000000)

turn_sine_raised : (s : ℕ) → s ≤ 360000000 → turn_sine s ≡ sub_ℕ (raised s) 1000000000
unfolding raised
turn_sine_raised s h = go (dec_lt 180000000 s)
  where
    go : Dec (180000000 < s) → turn_sine s ≡ sub_ℕ (raised s) 1000000000
    go (yes l) =
        let p = half_past s (omega arith) in
        let b = half_top (s - 180000000) in
        turn_sine_right s l ∙ neg_is (half_sine (s - 180000000)) ∙ sub_shift 0 (half_sine (s - 180000000)) (1000000000 + half_sine s - half_sine (s - 180000000)) 1000000000 (omega arith)
    go (no l) =
        let e : s - 180000000 ≡ 0 = omega arith in
        let z : half_sine (s - 180000000) ≡ 0 = ap half_sine e ∙ half_zero in
        turn_sine_left s (omega arith) ∙ ap pos (omega arith) ∙ sym (sub_ge (1000000000 + half_sine s - half_sine (s - 180000000)) 1000000000 (omega arith))

raised_step : (s : ℕ) → s < 360000000 → apart (raised (s + 1)) (raised s) ≤ 18
unfolding raised
raised_step s h = go (dec_lt s 180000000)
  where
    go : Dec (s < 180000000) → apart (raised (s + 1)) (raised s) ≤ 18
    go (yes l) =
        let e : s - 180000000 ≡ 0 = omega arith in
        let f : s + 1 - 180000000 ≡ 0 = omega arith in
        let c = half_step s l in
        rw (e, f, half_zero) (omega arith)
    go (no l) =
        let e : s + 1 - 180000000 ≡ s - 180000000 + 1 = omega arith in
        let c = half_step (s - 180000000) (omega arith) in
        let a = half_top (s - 180000000) in
        let b = half_top (s - 180000000 + 1) in
        rw (e, half_past s (omega arith), half_past (s + 1) (omega arith)) (omega arith)

-- neighbours differ by at most 18
turn_step : (s : ℕ) → s < 360000000 → nat_abs (turn_sine (s + 1) -ℤ turn_sine s) ≤ 18
turn_step s h =
    rw (turn_sine_raised (s + 1) (omega arith), turn_sine_raised s (omega arith), abs_sub 1000000000 (raised (s + 1)) (raised s)) (raised_step s h)

-- the turn's end is its beginning
turn_sine_end : turn_sine 360000000 ≡ turn_sine 0
turn_sine_end = turn_sine_right 360000000 (omega arith) ∙ ap (λ (n : ℕ). neg_ℤ (pos n)) half_end ∙ sym turn_sine_zero

pub sine_step : (t : ℤ) → nat_abs (sine_of (t +ℤ pos 1) -ℤ sine_of t) ≤ 18
sine_step t = rw (sine_is (t +ℤ pos 1), sine_is t, turn_add t 1) (go (dec_lt (turn t + 1) 360000000))
  where
    b : turn t < 360000000
    b = turn_below t

    go : Dec (turn t + 1 < 360000000) → nat_abs (turn_sine ((turn t + 1) % 360000000) -ℤ turn_sine (turn t)) ≤ 18
    go (yes l) =
        let e : (turn t + 1) % 360000000 ≡ turn t + 1 = omega arith in
        rw e (turn_step (turn t) b)
    go (no l) =
        let e : (turn t + 1) % 360000000 ≡ 0 = omega (arith, b) in
        let f : turn t + 1 ≡ 360000000 = omega (arith, b) in
        let g : turn_sine (turn t + 1) ≡ turn_sine 0 = ap turn_sine f ∙ turn_sine_end in
        rw e (rw g at (turn_step (turn t) b))

-- the sine is at most 10^9 either way
sized : (z : ℤ) (s : ℕ) → s ≤ 1000000000 → Within 1000000000 (with_sign_of z s)
sized (pos n) s h = record { within = h }
sized (negsuc n) s h = record { within = rw (abs_neg (pos s)) h }

pub sine_small : (t : ℤ) → Within 1000000000 (sine_of t)
unfolding sine_of
sine_small t = sized (one_turn t) (half_sine (nat_abs (one_turn t))) (half_top (nat_abs (one_turn t)))

pub cosine_small : (t : ℤ) → Within 1000000000 (cosine_of t)
unfolding cosine_of
cosine_small t = sine_small (t +ℤ pos 90000000)
