-- One turn as a number with no sign: `turn t` is t from 0 up to but without 360,000,000, and `one_turn t` is that or 360,000,000 less.
-- Both go by the rest of the floor division, so what is shown of `turn` by omega holds of `one_turn`.
use mathlib.Core.Path.{◌≡◌, refl, sym, ap, ◌∙◌}
use Prim.Native.Nat.{ℕ, zero, suc, ◌+◌, ◌-◌, ◌*◌, ◌/◌, ◌%◌, ◌≤◌, ◌<◌}
use native.Mathlib.Omega.{arith}
use native.Mathlib.Decide.{dec_lt}
use lib.IntN.{ℤ, pos, negsuc, neg_ℤ, sub_ℕ, ◌+ℤ◌, ◌-ℤ◌, ◌*ℤ◌}
use lib.Signed.{◌≤ℤ◌, ◌<ℤ◌}
use Rattle.integers.specs.Range.{Within}
use Rattle.integers.specs.Floor.{floor_mod}
use Rattle.integers.proofs.Difference.{zarith, d_sub, d_add, d_minus, d_mul, dn_zero, up_less}
use Rattle.integers.proofs.Ring.{sub_ge, sub_lt}
use Rattle.integers.proofs.Floor.{mod_only, mod_shift}
use Rattle.angles.specs.Unit.{one_turn}

unfoldable pub turn : ℤ → ℕ
turn (pos n) = n % 360000000
turn (negsuc n) = 359999999 - n % 360000000

pub turn_below : (t : ℤ) → turn t < 360000000
unfolding turn
turn_below (pos n) = omega arith
turn_below (negsuc n) = omega arith

pub turn_add : (t : ℤ) (k : ℕ) → turn (t +ℤ pos k) ≡ (turn t + k) % 360000000
unfolding turn
turn_add (pos n) k = omega arith
turn_add (negsuc n) k = go (dec_lt k (suc n))
  where
    go : Dec (k < suc n) → turn (sub_ℕ k (suc n)) ≡ (359999999 - n % 360000000 + k) % 360000000
    go (yes l) = rw (sub_lt k (suc n) l) (omega arith)
    go (no l) = rw (sub_ge k (suc n) (omega arith)) (omega arith)

pub turn_neg : (t : ℤ) → turn (neg_ℤ t) ≡ (360000000 - turn t) % 360000000
unfolding turn
turn_neg (pos zero) = refl
turn_neg (pos (suc n)) = omega arith
turn_neg (negsuc n) = omega arith

-- ---- the rest of the floor division is `turn`
pub mod_is : (t : ℤ) → floor_mod t 360000000 ≡ pos (turn t)
unfolding turn
mod_is (pos n) =
    let e : n / 360000000 * 360000000 + n % 360000000 ≡ n = omega arith in
    sym (mod_only (pos n) (pos (n % 360000000)) (pos (n / 360000000)) 359999999 (ap pos e) refl (omega arith))
mod_is (negsuc n) =
    let q = negsuc (n / 360000000) in
    let r = pos (359999999 - n % 360000000) in
    sym (mod_only (negsuc n) r q 359999999 (omega (zarith, d_mul q (pos 360000000), d_add (q *ℤ pos 360000000) r)) refl (omega arith))

pub one_turn_is : (t : ℤ) → one_turn t ≡ sub_ℕ ((turn t + 180000000) % 360000000) 180000000
unfolding one_turn
one_turn_is t =
    ap (λ (z : ℤ). z -ℤ pos 180000000) (mod_is (t +ℤ pos 180000000) ∙ ap pos (turn_add t 180000000))
    ∙ omega (zarith, d_minus (pos ((turn t + 180000000) % 360000000)) (pos 180000000), d_sub ((turn t + 180000000) % 360000000) 180000000)

pub one_turn_first : (t : ℤ) → turn t < 180000000 → one_turn t ≡ pos (turn t)
one_turn_first t l = one_turn_is t ∙ sub_ge ((turn t + 180000000) % 360000000) 180000000 (omega arith) ∙ ap pos (omega arith)

pub one_turn_second : (t : ℤ) → 180000000 ≤ turn t → one_turn t ≡ negsuc (359999999 - turn t)
one_turn_second t l =
    let b = turn_below t in
    one_turn_is t ∙ sub_lt ((turn t + 180000000) % 360000000) 180000000 (omega arith) ∙ ap negsuc (omega arith)

-- ---- its range: from -180,000,000 up to but without 180,000,000
pub one_turn_low : (t : ℤ) → negsuc 179999999 ≤ℤ one_turn t
one_turn_low t = rw (one_turn_is t) (omega (zarith, d_sub ((turn t + 180000000) % 360000000) 180000000))

pub one_turn_high : (t : ℤ) → one_turn t <ℤ pos 180000000
one_turn_high t = rw (one_turn_is t) (omega (zarith, d_sub ((turn t + 180000000) % 360000000) 180000000))

pub within_turn : (z : ℤ) → negsuc 179999999 ≤ℤ z → z ≤ℤ pos 180000000 → Within 180000000 z
within_turn (pos n) h l = record { within = omega (zarith, l) }
within_turn (negsuc n) h l = record { within = omega (zarith, h) }

less_at_most : (z : ℤ) → z <ℤ pos 180000000 → z ≤ℤ pos 180000000
less_at_most z h = omega (zarith, h)

pub one_turn_within : (t : ℤ) → Within 180000000 (one_turn t)
one_turn_within t = within_turn (one_turn t) (one_turn_low t) (less_at_most (one_turn t) (one_turn_high t))

-- ---- an angle in one turn is as it was, and whole turns more make no difference
pub in_turn : (z : ℤ) → negsuc 179999999 ≤ℤ z → z <ℤ pos 180000000 → one_turn z ≡ z
unfolding one_turn
in_turn z h l =
    let r = z +ℤ pos 180000000 in
    let e = d_add z (pos 180000000) in
    let m : r ≡ floor_mod r 360000000 =
    mod_only r r (pos 0) 359999999 (omega (zarith, d_mul (pos 0) (pos 360000000), d_add (pos 0 *ℤ pos 360000000) r)) (dn_zero r (omega (zarith, e, h)))
    (up_less r 360000000 (omega (zarith, e, l)) (omega arith)) in
    ap (λ (y : ℤ). y -ℤ pos 180000000) (sym m) ∙ omega (zarith, e, d_minus r (pos 180000000))

pub one_turn_again : (t : ℤ) → one_turn (one_turn t) ≡ one_turn t
one_turn_again t = in_turn (one_turn t) (one_turn_low t) (one_turn_high t)

pub one_turn_turns : (t k : ℤ) → one_turn (t +ℤ k *ℤ pos 360000000) ≡ one_turn t
unfolding one_turn
one_turn_turns t k =
    let p = k *ℤ pos 360000000 in
    let e : t +ℤ p +ℤ pos 180000000 ≡ t +ℤ pos 180000000 +ℤ p = omega (zarith, d_add t p, d_add (t +ℤ p) (pos 180000000), d_add t (pos 180000000), d_add (t +ℤ pos 180000000) p) in
    ap (λ (z : ℤ). floor_mod z 360000000 -ℤ pos 180000000) e ∙ ap (λ (z : ℤ). z -ℤ pos 180000000) (mod_shift (t +ℤ pos 180000000) k 359999999)

-- only `turn` counts
pub turn_of_one_turn : (t : ℤ) → turn (one_turn t) ≡ turn t
unfolding turn
turn_of_one_turn t = go (dec_lt (turn t) 180000000)
  where
    b : turn t < 360000000
    b = turn_below t

    go : Dec (turn t < 180000000) → turn (one_turn t) ≡ turn t
    go (yes l) = ap turn (one_turn_first t l) ∙ omega arith
    go (no l) = ap turn (one_turn_second t (omega arith)) ∙ omega (arith, b)

pub one_turn_by_turn : (s t : ℤ) → turn s ≡ turn t → one_turn s ≡ one_turn t
one_turn_by_turn s t e = one_turn_is s ∙ ap (λ (n : ℕ). sub_ℕ ((n + 180000000) % 360000000) 180000000) e ∙ sym (one_turn_is t)

-- a sum after the turn, and before it
pub one_turn_sum : (t : ℤ) (k : ℕ) → one_turn (one_turn t +ℤ pos k) ≡ one_turn (t +ℤ pos k)
one_turn_sum t k =
    one_turn_by_turn (one_turn t +ℤ pos k) (t +ℤ pos k) (turn_add (one_turn t) k ∙ ap (λ (n : ℕ). (n + k) % 360000000) (turn_of_one_turn t) ∙ sym (turn_add t k))
