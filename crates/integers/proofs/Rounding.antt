-- floor(a / k + 1/2) goes by the value of a / k alone, whole numbers go out of it, and it is near a / k.
-- Each law shows that a number does what a floor does, in the terms of Difference; the floor is the only one that does.
use lib.Signed.{◌≤ℤ◌}
use mathlib.Core.Bool.{Bool, true, false}
use mathlib.Core.Path.{◌≡◌, refl, sym, ap, ◌∙◌}
use Prim.Native.Nat.{ℕ, zero, suc, ◌+◌, ◌*◌, ◌≤◌, ◌<◌}
use native.Mathlib.Nat as NatL
use native.Mathlib.Omega.{arith}
use lib.IntN.{ℤ, pos, neg_ℤ, ◌+ℤ◌, ◌-ℤ◌, ◌*ℤ◌, +ℤ_comm}
use Rattle.integers.specs.Floor.{floor_div, rounded}
use Rattle.integers.proofs.Difference.{zarith, up, dn, d_add, d_minus, d_mul, eq_d, ext, up_neg, dn_neg}
use Rattle.integers.proofs.Floor.{floor_low, floor_high, floor_only, floor_shift}
use Rattle.integers.specs.Sign.{signed}

-- ---- a floor by any divisor above 0: a whole number goes out of it, what is under it is 0, and it goes by the fraction's value
floor_out : (c x : ℤ) (m : ℕ) → 0 < m → floor_div (c *ℤ pos m +ℤ x) m ≡ c +ℤ floor_div x m
floor_out c x zero h = absurd (omega arith)
floor_out c x (suc m) h = floor_shift c x m

floor_zero : (z : ℤ) (m : ℕ) → dn z ≤ up z → up z < dn z + m → floor_div z m ≡ pos 0
floor_zero z zero h g = absurd (omega arith)
floor_zero z (suc m) h g = sym (floor_only (pos 0) z m (omega arith) (omega arith))

abbrev Bounds : ℤ → ℕ → ℤ → Type 0
Bounds z m q = (up q * m + dn z ≤ up z + dn q * m) × (up z + dn q * m < up q * m + dn z + m)

floor_bounds : (z : ℤ) (m : ℕ) → 0 < m → Bounds z m (floor_div z m)
floor_bounds z zero h = absurd (omega arith)
floor_bounds z (suc m) h = (floor_low z m, floor_high z m)

floor_same : (a b : ℤ) (k l : ℕ) → 0 < k → 0 < l → up a * l + dn b * k ≡ up b * k + dn a * l → floor_div a k ≡ floor_div b l
floor_same a b k zero h g e = absurd (omega arith)
floor_same a b k (suc l) h g e =
    let q = floor_div a k in
    let f = floor_bounds a k h in
    let low = NatL.mul-le-mul_right (suc l) f.0 in
    let high = NatL.mul-lt-mul_of_pos_right f.1 g in
    floor_only q b l (NatL.le_of_mul-le-mul_right {k = k} (omega arith) h) (NatL.lt_of_mul-lt-mul_right k (omega arith))

-- ---- the same of floor(a / k + 1/2), which divides 2 a + k by 2 k
double : (a : ℤ) (k : ℕ) → up (pos 2 *ℤ a +ℤ pos k) + 2 * dn a ≡ dn (pos 2 *ℤ a +ℤ pos k) + (2 * up a + k)
double a k = omega (arith, d_add (pos 2 *ℤ a) (pos k), d_mul (pos 2) a)

twice : {k : ℕ} → 0 < k → 0 < 2 * k
twice h = omega arith

-- a sign stays through a product
pub signed_times : (s : Bool) (n m : ℕ) → signed s n *ℤ pos m ≡ signed s (n * m)
signed_times false n m = refl
signed_times true zero m = rw (NatL.zero-mul m)
signed_times true (suc n) m = refl

pub rounded_same : (s : Bool) (n m k l : ℕ) → 0 < k → 0 < l → n * l ≡ m * k → rounded (signed s n) k ≡ rounded (signed s m) l
rounded_same s n m k l h g e =
    let a = signed s n in
    let b = signed s m in
    let f : a *ℤ pos l ≡ b *ℤ pos k = signed_times s n l ∙ ap (signed s) e ∙ sym (signed_times s m k) in
    let x : up a * l + dn b * k ≡ up b * k + dn a * l = omega (arith, eq_d _ _ f, d_mul a (pos l), d_mul b (pos k)) in
    floor_same (pos 2 *ℤ a +ℤ pos k) (pos 2 *ℤ b +ℤ pos l) (2 * k) (2 * l) (twice h) (twice g)
    (omega (arith, ap (λ (i : ℕ). i * l) (double a k), ap (λ (i : ℕ). i * k) (double b l)))

pub rounded_less : (a : ℤ) (c k : ℕ) → 0 < k → rounded (a -ℤ pos (c * k)) k ≡ rounded a k -ℤ pos c
rounded_less a c k h =
    let b = a -ℤ pos (c * k) in
    let z = pos 2 *ℤ a +ℤ pos k in
    let p = neg_ℤ (pos c) *ℤ pos (2 * k) in
    let e : up p + c * (2 * k) ≡ dn p = omega (arith, eq_d _ _ (signed_times true c (2 * k)), up_neg (pos (c * (2 * k))), dn_neg (pos (c * (2 * k)))) in
    let f : pos 2 *ℤ b +ℤ pos k ≡ p +ℤ z = ext (pos 2 *ℤ b +ℤ pos k) (p +ℤ z) (omega (arith, double a k, double b k, d_minus a (pos (c * k)), d_add p z)) in
    ap (λ (x : ℤ). floor_div x (2 * k)) f ∙ floor_out (neg_ℤ (pos c)) z (2 * k) (twice h) ∙ +ℤ_comm (neg_ℤ (pos c)) (rounded a k)

-- a number under a half gives 0, and one of c or more gives c or more, either way
pub rounded_small : (s : Bool) (n k : ℕ) → 2 * n < k → rounded (signed s n) k ≡ pos 0
rounded_small s n k h =
    let a = signed s n in
    floor_zero (pos 2 *ℤ a +ℤ pos k) (2 * k) (omega (arith, double a k, size s n)) (omega (arith, double a k, size s n))
  where
    size : (s : Bool) (n : ℕ) → up (signed s n) + dn (signed s n) ≡ n
    size false n = omega arith
    size true n = omega (arith, up_neg (pos n), dn_neg (pos n))

pub rounded_above : (n k c : ℕ) → 0 < k → c * k ≤ n → pos c ≤ℤ rounded (pos n) k
rounded_above n k c h g =
    let q = rounded (pos n) k in
    let f = floor_bounds (pos 2 *ℤ pos n +ℤ pos k) (2 * k) (twice h) in
    let r : (2 * c + 2 * dn q) * k < (2 * up q + 1) * k = omega (arith, double (pos n) k) in
    let l = NatL.lt_of_mul-lt-mul_right k r in
    omega (zarith, l)

pub rounded_below : (n k c : ℕ) → 0 < k → c * k ≤ n → rounded (neg_ℤ (pos n)) k ≤ℤ neg_ℤ (pos c)
rounded_below n k c h g =
    let a = neg_ℤ (pos n) in
    let q = rounded a k in
    let f = floor_bounds (pos 2 *ℤ a +ℤ pos k) (2 * k) (twice h) in
    let r : (2 * c + 2 * up q) * k ≤ (2 * dn q + 1) * k = omega (arith, double a k, up_neg (pos n), dn_neg (pos n)) in
    let l = NatL.le_of_mul-le-mul_right r h in
    omega (zarith, l, up_neg (pos c), dn_neg (pos c))
