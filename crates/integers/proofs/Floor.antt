-- Floor division by a number above 0: what it is, that it is the only one, what it leaves, and its bounds.
-- The two sides of q m ≤ z < q m + m in the terms of Difference carry every other law.
use Prim.Native.Nat.{ℕ, zero, suc, ◌+◌, ◌*◌, ◌/◌, ◌%◌, ◌<◌, ◌≤◌}
use native.Mathlib.Omega.{arith}
use native.Mathlib.Nat as NatL
use mathlib.Core.Path.{◌≡◌, refl, sym, ◌∙◌, ap}
use lib.Dec.{ltb→lt}
use lib.IntN.{ℤ, pos, negsuc, nat_abs, ◌+ℤ◌, ◌-ℤ◌, ◌*ℤ◌}
use lib.Signed.{quot_z, rem_z, ◌≤ℤ◌, ◌<ℤ◌}
use mir.Syntax.{w64}
use mir.Val.{SFits, of_z}
use Rattle.integers.specs.Floor.{floor_div, floor_mod, IsFloor}
use Rattle.integers.proofs.Difference.{up, dn, zarith, d_add, d_minus, d_mul, lt_d, up_neg, dn_neg, dn_zero, up_less}
use Rattle.integers.proofs.Ring.{minus_plus, split_product, abs_neg, *ℤ-distrib_r}

-- ---- a divisor above 0
pub pos_abs : (d : ℤ) → pos 0 <ℤ d → pos (nat_abs d) ≡ d
pos_abs (pos d) h = refl
pos_abs (negsuc d) h = absurd h.lt

pub abs_pos : (d : ℤ) → pos 0 <ℤ d → 0 < nat_abs d
abs_pos (pos d) h = ltb→lt 0 d h.lt
abs_pos (negsuc d) h = omega arith

pub bits_pos : (d : ℤ) → pos 0 <ℤ d → 0 < of_z w64 d
bits_pos (pos d) h = omega (arith, lt_d (pos 0) (pos d) h)
bits_pos (negsuc d) h = absurd h.lt

-- ---- q m ≤ z < q m + m
pub floor_low : (z : ℤ) (m : ℕ) → up (floor_div z (suc m)) * suc m + dn z ≤ up z + dn (floor_div z (suc m)) * suc m
floor_low (pos a) m = omega (arith, NatL.div-add-mod' a (suc m))
floor_low (negsuc a) m = omega (arith, NatL.div-add-mod' a (suc m), NatL.mod-lt a (NatL.zero-lt-suc m))

pub floor_high : (z : ℤ) (m : ℕ) → up z + dn (floor_div z (suc m)) * suc m < up (floor_div z (suc m)) * suc m + dn z + suc m
floor_high (pos a) m = omega (arith, NatL.div-add-mod' a (suc m), NatL.mod-lt a (NatL.zero-lt-suc m))
floor_high (negsuc a) m = omega (arith, NatL.div-add-mod' a (suc m))

-- the floor is the only one, in these terms
pub floor_only : (q z : ℤ) (m : ℕ) → up q * suc m + dn z ≤ up z + dn q * suc m → up z + dn q * suc m < up q * suc m + dn z + suc m → q ≡ floor_div z (suc m)
floor_only q z m h k =
    let f = floor_div z (suc m) in
    let x : up q + dn f < suc (up f + dn q) = NatL.lt_of_mul-lt-mul_right (suc m) (omega (arith, floor_high z m)) in
    let y : up f + dn q < suc (up q + dn f) = NatL.lt_of_mul-lt-mul_right (suc m) (omega (arith, floor_low z m)) in
    omega zarith

-- `floor_div` does what document 01's floor does, and nothing else does
pub floor_is : (z : ℤ) (m : ℕ) → 0 < m → IsFloor z m (floor_div z m)
floor_is z zero h = absurd (omega arith)
floor_is z (suc m) h =
    let q = floor_div z (suc m) in
    let p = q *ℤ pos (suc m) in
    let e = d_mul q (pos (suc m)) in
    record { low = omega (zarith, e, floor_low z m); high = omega (zarith, e, d_add p (pos (suc m)), floor_high z m) }

pub only_floor : (z : ℤ) (m : ℕ) (q : ℤ) → 0 < m → IsFloor z m q → q ≡ floor_div z m
only_floor z zero q h f = absurd (omega arith)
only_floor z (suc m) q h f =
    let p = q *ℤ pos (suc m) in
    let e = d_mul q (pos (suc m)) in
    floor_only q z m (omega (zarith, e, f.low)) (omega (zarith, e, d_add p (pos (suc m)), f.high))

-- ---- a multiple goes out of a floor
pub floor_shift : (k x : ℤ) (m : ℕ) → floor_div (k *ℤ pos (suc m) +ℤ x) (suc m) ≡ k +ℤ floor_div x (suc m)
floor_shift k x m =
    let f = floor_div x (suc m) in
    let z = k *ℤ pos (suc m) +ℤ x in
    let e = d_add (k *ℤ pos (suc m)) x in
    let g = d_mul k (pos (suc m)) in
    let t = ap (λ (n : ℕ). n * suc m) (d_add k f) in
    sym (floor_only (k +ℤ f) z m (omega (arith, e, g, t, floor_low x m)) (omega (arith, e, g, t, floor_high x m)))

-- floor(x y / m) by any quotients and rests of x and y
pub floor_split : (x y u v q s : ℤ) (m : ℕ) → 0 < m → u *ℤ pos m +ℤ v ≡ x → q *ℤ pos m +ℤ s ≡ y → x *ℤ q +ℤ u *ℤ s +ℤ floor_div (v *ℤ s) m ≡ floor_div (x *ℤ y) m
floor_split x y u v q s zero h e f = absurd (omega arith)
floor_split x y u v q s (suc m) h e f =
    sym (floor_shift (x *ℤ q +ℤ u *ℤ s) (v *ℤ s) m) ∙ ap (λ (z : ℤ). floor_div z (suc m)) (split_product x y u v q s (pos (suc m)) e f)

-- ---- the rest
pub mod_low : (z : ℤ) (m : ℕ) → dn (floor_mod z (suc m)) ≡ 0
mod_low z m =
    let f = floor_div z (suc m) in
    dn_zero (floor_mod z (suc m)) (omega (arith, d_minus z (f *ℤ pos (suc m)), d_mul f (pos (suc m)), floor_low z m))

pub mod_high : (z : ℤ) (m : ℕ) → up (floor_mod z (suc m)) < suc m
mod_high z m =
    let f = floor_div z (suc m) in
    up_less (floor_mod z (suc m)) (suc m) (omega (arith, d_minus z (f *ℤ pos (suc m)), d_mul f (pos (suc m)), floor_high z m)) (NatL.zero-lt-suc m)

pub mod_split : (z : ℤ) (m : ℕ) → floor_div z m *ℤ pos m +ℤ floor_mod z m ≡ z
mod_split z m = minus_plus z (floor_div z m *ℤ pos m)

-- the quotient and the rest are the only ones
pub quotient_only : (z r k : ℤ) (m : ℕ) → k *ℤ pos (suc m) +ℤ r ≡ z → dn r ≡ 0 → up r < suc m → k ≡ floor_div z (suc m)
quotient_only z r k m e h l =
    floor_only k z m (omega (zarith, d_add (k *ℤ pos (suc m)) r, d_mul k (pos (suc m)))) (omega (zarith, d_add (k *ℤ pos (suc m)) r, d_mul k (pos (suc m))))

pub mod_only : (z r k : ℤ) (m : ℕ) → k *ℤ pos (suc m) +ℤ r ≡ z → dn r ≡ 0 → up r < suc m → r ≡ floor_mod z (suc m)
mod_only z r k m e h l =
    let i : r ≡ z -ℤ k *ℤ pos (suc m) = omega (zarith, d_add (k *ℤ pos (suc m)) r, d_minus z (k *ℤ pos (suc m))) in
    i ∙ ap (λ (y : ℤ). z -ℤ y *ℤ pos (suc m)) (quotient_only z r k m e h l)

-- a whole number of m more leaves the same rest
pub mod_shift : (z k : ℤ) (m : ℕ) → floor_mod (z +ℤ k *ℤ pos (suc m)) (suc m) ≡ floor_mod z (suc m)
mod_shift z k m =
    let f = floor_div z (suc m) in
    let r = floor_mod z (suc m) in
    let p = k *ℤ pos (suc m) in
    let e : (f +ℤ k) *ℤ pos (suc m) +ℤ r ≡ z +ℤ p =
    ap (λ (y : ℤ). y +ℤ r) (*ℤ-distrib_r f k (pos (suc m))) ∙ omega (zarith, d_add (f *ℤ pos (suc m)) p, d_add (f *ℤ pos (suc m) +ℤ p) r, d_add z p, d_add (f *ℤ pos (suc m)) r, mod_split z (suc m)) in
    sym (mod_only (z +ℤ p) r (f +ℤ k) m e (mod_low z m) (mod_high z m))

-- ---- bounds
pub div_mono : {x y : ℕ} (k : ℕ) → x ≤ y → x / k ≤ y / k
div_mono {x} {y} zero h = omega (arith, NatL.div-zero x, NatL.div-zero y)
div_mono {x} {y} (suc k) h = (NatL.le-div_iff_mul-le (NatL.zero-lt-suc k)).1 (omega (arith, NatL.div-mul-le_self x (suc k)))

-- a floor holds at least as many divisors as its number
pub floor_least : (z : ℤ) (m k : ℕ) → k * suc m ≤ nat_abs z → k ≤ nat_abs (floor_div z (suc m))
floor_least (pos a) m k h = (NatL.le-div_iff_mul-le (NatL.zero-lt-suc m)).1 h
floor_least (negsuc a) m zero h = omega arith
floor_least (negsuc a) m (suc k) h =
    let l : k * suc m ≤ a = omega arith in
    omega (arith, (NatL.le-div_iff_mul-le (NatL.zero-lt-suc m)).1 l)

-- a larger number has no smaller floor
pub floor_mono : (y z : ℤ) (m : ℕ) → 0 < m → y ≤ℤ z → floor_div y m ≤ℤ floor_div z m
floor_mono y z zero p h = absurd (omega arith)
floor_mono y z (suc m) p h =
    let f = floor_div y (suc m) in
    let g = floor_div z (suc m) in
    let x : up f + dn g < suc (up g + dn f) = NatL.lt_of_mul-lt-mul_right (suc m) (omega (zarith, h, floor_low y m, floor_high z m)) in
    omega zarith

pub floor_fits : (z : ℤ) (m : ℕ) → SFits w64 z → SFits w64 (floor_div z m)
floor_fits (pos a) m f = record { sfits = omega (arith, f.sfits, NatL.div-le_self a m) }
floor_fits (negsuc a) m f = record { sfits = omega (arith, f.sfits, NatL.div-le_self a m) }

-- ---- the machine's quotient and rest, toward zero, by a number
pub d_quot_rem : (z : ℤ) (m : ℕ) → up (quot_z z (pos m)) * m + up (rem_z z (pos m)) + dn z ≡ up z + dn (quot_z z (pos m)) * m + dn (rem_z z (pos m))
d_quot_rem (pos a) m = omega (arith, NatL.div-add-mod' a m)
d_quot_rem (negsuc a) m = rw (up_neg (pos (suc a / m)), dn_neg (pos (suc a / m)), up_neg (pos (suc a % m)), dn_neg (pos (suc a % m))) (omega (arith, NatL.div-add-mod' (suc a) m))

pub quot_rem : (z : ℤ) (m : ℕ) → quot_z z (pos m) *ℤ pos m +ℤ rem_z z (pos m) ≡ z
quot_rem z m =
    let q = quot_z z (pos m) in
    omega (zarith, d_quot_rem z m, d_mul q (pos m), d_add (q *ℤ pos m) (rem_z z (pos m)))

pub quot_abs : (z : ℤ) (m : ℕ) → nat_abs (quot_z z (pos m)) ≡ nat_abs z / m
quot_abs (pos a) m = refl
quot_abs (negsuc a) m = abs_neg (pos (suc a / m))

pub rem_small : (z : ℤ) (m : ℕ) → 0 < m → nat_abs (rem_z z (pos m)) < m
rem_small (pos a) m h = NatL.mod-lt a h
rem_small (negsuc a) m h = rw (abs_neg (pos (suc a % m))) (NatL.mod-lt (suc a) h)

pub quot_fits : (z : ℤ) (m : ℕ) → SFits w64 z → SFits w64 (quot_z z (pos m))
quot_fits (pos a) m f = record { sfits = omega (arith, f.sfits, NatL.div-le_self a m) }
quot_fits (negsuc a) m f = omega (zarith, up_neg (pos (suc a / m)), dn_neg (pos (suc a / m)), NatL.div-le_self (suc a) m)

-- by the sign of the rest: the floor and its rest from the machine's
module _ (z : ℤ) (m : ℕ) (p : 0 < m) where
  up_small : (r : ℤ) → pos 0 ≤ℤ r → nat_abs r < m → (dn r ≡ 0) × (up r < m)
  up_small (pos n) h l = (refl, omega arith)
  up_small (negsuc n) h l = absurd h.le

  up_raised : (r : ℤ) → r <ℤ pos 0 → nat_abs r < m → (dn (r +ℤ pos m) ≡ 0) × (up (r +ℤ pos m) < m)
  up_raised (pos n) h l = absurd (omega (arith, ltb→lt n 0 h.lt))
  up_raised (negsuc n) h l =
      let s = negsuc n +ℤ pos m in
      let d = d_add (negsuc n) (pos m) in
      (dn_zero s (omega arith), up_less s m (omega arith) p)

  less_one : (q r : ℤ) → q *ℤ pos m +ℤ r ≡ z → (q -ℤ pos 1) *ℤ pos m +ℤ (r +ℤ pos m) ≡ z
  less_one q r e =
      let k = q -ℤ pos 1 in
      omega (zarith, ap (λ (n : ℕ). n * m) (d_minus q (pos 1)), d_mul k (pos m), d_mul q (pos m), d_add (q *ℤ pos m) r, d_add r (pos m), d_add (k *ℤ pos m) (r +ℤ pos m))

pub floor_by_pos : (z : ℤ) (m : ℕ) → 0 < m → pos 0 ≤ℤ rem_z z (pos m) → (quot_z z (pos m) ≡ floor_div z m) × (rem_z z (pos m) ≡ floor_mod z m)
floor_by_pos z zero p h = absurd (omega arith)
floor_by_pos z (suc m) p h =
    let q = quot_z z (pos (suc m)) in
    let r = rem_z z (pos (suc m)) in
    let u = up_small z (suc m) p r h (rem_small z (suc m) p) in
    (quotient_only z r q m (quot_rem z (suc m)) u.0 u.1, mod_only z r q m (quot_rem z (suc m)) u.0 u.1)

pub floor_by_neg : (z : ℤ) (m : ℕ) → 0 < m → rem_z z (pos m) <ℤ pos 0 → (quot_z z (pos m) -ℤ pos 1 ≡ floor_div z m) × (rem_z z (pos m) +ℤ pos m ≡ floor_mod z m)
floor_by_neg z zero p h = absurd (omega arith)
floor_by_neg z (suc m) p h =
    let q = quot_z z (pos (suc m)) in
    let r = rem_z z (pos (suc m)) in
    let u = up_raised z (suc m) p r h (rem_small z (suc m) p) in
    let e = less_one z (suc m) p q r (quot_rem z (suc m)) in
    (quotient_only z (r +ℤ pos (suc m)) (q -ℤ pos 1) m e u.0 u.1, mod_only z (r +ℤ pos (suc m)) (q -ℤ pos 1) m e u.0 u.1)
