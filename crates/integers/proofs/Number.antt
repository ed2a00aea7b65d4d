-- What the machine holds, as a number with a bound: `Num x z n` says that x, read back by the machine, is z, and |z| ≤ n.
-- An operation of two such is such a one, and fits where the bounds' product or sum is below 2^63, which computes: `tt`.
use Prim.Native.Nat.{ℕ, zero, suc, ◌+◌, ◌*◌, ◌/◌, ◌^◌, ◌<◌, ◌≤◌}
use native.Mathlib.Omega.{arith}
use native.Mathlib.Nat as NatL
use native.Mathlib.Nat.{le_refl}
use mathlib.Core.Path.{◌≡◌, refl, sym, ◌∙◌, subst}
use lib.Dec.{T, ltb, leb, ltb→lt, leb→le, le→leb}
use lib.IntN.{ℤ, pos, negsuc, neg_ℤ, nat_abs, ◌+ℤ◌, ◌-ℤ◌, ◌*ℤ◌}
use mathlib.Core.Bool.{true, false}
use lib.Signed.{mag, non_neg, lt_z, le_z, ◌≤ℤ◌, ◌<ℤ◌}
use mir.Syntax.{w64}
use mir.Val.{Fits, SFits, to_z}
use Rattle.integers.specs.Range.{Within, ProductFits, SplitFits}
use Rattle.integers.specs.Floor.{floor_div, unit_product}
use Rattle.integers.proofs.Difference.{zarith, eq_d}
use Rattle.integers.proofs.Ring.{abs_mul_le, abs_add_le, abs_sub_le, abs_neg}
use Rattle.integers.proofs.Floor.{div_mono}
use Rattle.integers.proofs.Cast.{read, back, fits₂, val₂, cast_fits, of_nat}

-- ---- bounds, with the numbers inferred from the facts
pub w_mul : {a b : ℤ} {m n : ℕ} → Within m a → Within n b → Within (m * n) (a *ℤ b)
w_mul {a} {b} p q = record { within = abs_mul_le a b p.within q.within }

pub w_add : {a b : ℤ} {m n : ℕ} → Within m a → Within n b → Within (m + n) (a +ℤ b)
w_add {a} {b} p q = record { within = abs_add_le a b p.within q.within }

pub w_sub : {a b : ℤ} {m n : ℕ} → Within m a → Within n b → Within (m + n) (a -ℤ b)
w_sub {a} {b} p q = record { within = abs_sub_le a b p.within q.within }

pub w_neg : {a : ℤ} {m : ℕ} → Within m a → Within m (neg_ℤ a)
w_neg {a} p = record { within = rw (abs_neg a) p.within }

pub w_more : {a : ℤ} {m n : ℕ} → Within m a → T (leb m n) → Within n a
w_more {m = m} {n = n} p t = record { within = omega (arith, p.within, leb→le m n t) }

pub w_most : {a : ℤ} {m n : ℕ} → Within m a → m ≤ n → Within n a
w_most p l = record { within = omega (arith, p.within) }

pub w_lit : (z : ℤ) → Within (nat_abs z) z
w_lit z = record { within = le_refl (nat_abs z) }

pub w_floor : {a : ℤ} {n : ℕ} (m k : ℕ) → Within n a → T (leb n (k * suc m)) → Within k (floor_div a (suc m))
w_floor {a = pos a} {n} m k p t =
    record { within = NatL.le_of_suc-le-suc ((NatL.div-lt_iff_lt-mul (NatL.zero-lt-suc m)).1 (omega (arith, p.within, leb→le n (k * suc m) t))) }
w_floor {a = negsuc a} {n} m k p t =
    record { within = (NatL.div-lt_iff_lt-mul (NatL.zero-lt-suc m)).1 (omega (arith, p.within, leb→le n (k * suc m) t)) }

-- the same where the bounds are no numerals
pub w_floor< : {z : ℤ} {n : ℕ} (m k : ℕ) → 0 < m → Within n z → n ≤ k * m → Within k (floor_div z m)
w_floor< zero k h p l = absurd (omega arith)
w_floor< {n = n} (suc m) k h p l = w_floor m k p (le→leb n (k * suc m) l)

-- a floor is no larger than its number, where that has a bound of at least 1
pub w_floor_any : {a : ℤ} {n : ℕ} (m : ℕ) → Within n a → Within n (floor_div a m)
w_floor_any {a = pos a} m p = record { within = omega (arith, p.within, NatL.div-le_self a m) }
w_floor_any {a = negsuc a} m p = record { within = omega (arith, p.within, NatL.div-le_self a m) }

abs_fits : (z : ℤ) → nat_abs z < 2 ^ 63 → SFits w64 z
abs_fits (pos n) h = record { sfits = h }
abs_fits (negsuc n) h = record { sfits = omega arith }

pub w_fits< : {z : ℤ} {n : ℕ} → Within n z → n < 2 ^ 63 → SFits w64 z
w_fits< {z} p t = abs_fits z (omega (arith, p.within))

pub w_fits : {z : ℤ} {n : ℕ} → Within n z → T (ltb n (2 ^ 63)) → SFits w64 z
w_fits {n = n} p t = w_fits< p (ltb→lt n (2 ^ 63) t)

-- ---- what a call's range asks, by bounds that are numerals
pub product_fits : {a b : ℤ} {m n : ℕ} → Within m a → Within n b → T (ltb (m * n) (2 ^ 63)) → ProductFits a b
product_fits {m = m} {n} p q t = record { product = NatL.lt_of_le_of_lt (NatL.mul-le-mul p.within q.within) (ltb→lt (m * n) (2 ^ 63) t) }

pub split_fits : {a b : ℤ} {m n : ℕ} (k : ℕ) → Within m a → Within n b → T (ltb (m * (n / k) + m / k * k + k) (2 ^ 63)) → T (ltb (k * k) (2 ^ 63)) → SplitFits a b (pos k)
split_fits {m = m} {n} k p q t r =
    record {
      sums =
          NatL.lt_of_le_of_lt
          (NatL.add-le-add (NatL.add-le-add (NatL.mul-le-mul p.within (div_mono k q.within)) (NatL.mul-le-mul_right k (div_mono k p.within))) (le_refl k))
          (ltb→lt (m * (n / k) + m / k * k + k) (2 ^ 63) t);
      rests = ltb→lt (k * k) (2 ^ 63) r;
    }

-- ---- what the machine holds
pub record Num (x z : ℤ) (n : ℕ) : Type 0 where
  pub is : x ≡ z
  pub small : Within n z

-- a parameter that fits, of a known bound
pub arg : {z : ℤ} {n : ℕ} → SFits w64 z → Within n z → Num (read z) z n
arg {z} f w = record { is = back z f; small = w }

-- a number of a known bound, with no other fact
pub known : {z : ℤ} {n : ℕ} → Within n z → T (ltb n (2 ^ 63)) → Num (read z) z n
known w t = arg (w_fits w t) w

-- a literal
pub lit : (z : ℤ) → Num z z (nat_abs z)
lit z = record { is = refl; small = w_lit z }

-- the result of a call, or a value out of memory
pub got : {x z : ℤ} {n : ℕ} → mag x < 2 ^ 63 → x ≡ z → Within n z → Num (read x) z n
got {x} f e w = record { is = back x (record { sfits = f }) ∙ e; small = w }

pub also : {x z z' : ℤ} {n : ℕ} → Num x z n → z ≡ z' → Num x z' n
also {n = n} p e = record { is = p.is ∙ e; small = subst (Within n) e p.small }

-- an operation: that it fits, and what it gives. The bounds may be any numbers; where they are numerals the proof is `tt`
module _ {x y z w : ℤ} {m n : ℕ} (p : Num x z m) (q : Num y w n) where
  pub mul_fits< : m * n < 2 ^ 63 → SFits w64 (x *ℤ y)
  mul_fits< t = fits₂ ◌*ℤ◌ p.is q.is (w_fits< (w_mul p.small q.small) t)

  pub mul< : m * n < 2 ^ 63 → Num (read (x *ℤ y)) (z *ℤ w) (m * n)
  mul< t = record { is = val₂ ◌*ℤ◌ p.is q.is (w_fits< (w_mul p.small q.small) t); small = w_mul p.small q.small }

  pub add_fits< : m + n < 2 ^ 63 → SFits w64 (x +ℤ y)
  add_fits< t = fits₂ ◌+ℤ◌ p.is q.is (w_fits< (w_add p.small q.small) t)

  pub add< : m + n < 2 ^ 63 → Num (read (x +ℤ y)) (z +ℤ w) (m + n)
  add< t = record { is = val₂ ◌+ℤ◌ p.is q.is (w_fits< (w_add p.small q.small) t); small = w_add p.small q.small }

  pub sub_fits< : m + n < 2 ^ 63 → SFits w64 (x -ℤ y)
  sub_fits< t = fits₂ ◌-ℤ◌ p.is q.is (w_fits< (w_sub p.small q.small) t)

  pub sub< : m + n < 2 ^ 63 → Num (read (x -ℤ y)) (z -ℤ w) (m + n)
  sub< t = record { is = val₂ ◌-ℤ◌ p.is q.is (w_fits< (w_sub p.small q.small) t); small = w_sub p.small q.small }

  pub mul_fits : T (ltb (m * n) (2 ^ 63)) → SFits w64 (x *ℤ y)
  mul_fits t = mul_fits< (ltb→lt (m * n) (2 ^ 63) t)

  pub mul : T (ltb (m * n) (2 ^ 63)) → Num (read (x *ℤ y)) (z *ℤ w) (m * n)
  mul t = mul< (ltb→lt (m * n) (2 ^ 63) t)

  pub add_fits : T (ltb (m + n) (2 ^ 63)) → SFits w64 (x +ℤ y)
  add_fits t = add_fits< (ltb→lt (m + n) (2 ^ 63) t)

  pub add : T (ltb (m + n) (2 ^ 63)) → Num (read (x +ℤ y)) (z +ℤ w) (m + n)
  add t = add< (ltb→lt (m + n) (2 ^ 63) t)

  pub sub_fits : T (ltb (m + n) (2 ^ 63)) → SFits w64 (x -ℤ y)
  sub_fits t = sub_fits< (ltb→lt (m + n) (2 ^ 63) t)

  pub sub : T (ltb (m + n) (2 ^ 63)) → Num (read (x -ℤ y)) (z -ℤ w) (m + n)
  sub t = sub< (ltb→lt (m + n) (2 ^ 63) t)

-- the machine's tests of two numbers
module _ {x y z w : ℤ} {m n : ℕ} (p : Num x z m) (q : Num y w n) where
  pub less : lt_z x y ≡ true → z <ℤ w
  less t = omega (zarith, eq_d _ _ p.is, eq_d _ _ q.is)

  pub not_less : lt_z x y ≡ false → w ≤ℤ z
  not_less t = omega (zarith, eq_d _ _ p.is, eq_d _ _ q.is)

  pub at_most : le_z x y ≡ true → z ≤ℤ w
  at_most t = omega (zarith, eq_d _ _ p.is, eq_d _ _ q.is)

  pub not_at_most : le_z x y ≡ false → w <ℤ z
  not_at_most t = omega (zarith, eq_d _ _ p.is, eq_d _ _ q.is)

-- a cast to an unsigned number of one that is not negative, and of an unsigned number to a signed one
pub cast_num : {x z : ℤ} {n : ℕ} → Num x z n → pos 0 ≤ℤ z → T (ltb n (2 ^ 64)) → T (non_neg x) × Fits w64 (nat_abs x)
cast_num {n = n} p h t = cast_fits p.is h (omega (arith, p.small.within, ltb→lt n (2 ^ 64) t))

pub of_unsigned : {a n : ℕ} → a ≤ n → T (ltb n (2 ^ 63)) → Num (to_z w64 a) (pos a) n
of_unsigned {a} {n} h t = record { is = of_nat a (omega (arith, ltb→lt n (2 ^ 63) t)); small = record { within = h } }

-- what `unit_product` asks of two numbers
pub nums_fit : {x y z w : ℤ} {m n : ℕ} → Num x z m → Num y w n → T (ltb (m * n) (2 ^ 63)) → ProductFits x y
nums_fit {m = m} {n} p q t = product_fits (subst (Within m) (sym p.is) p.small) (subst (Within n) (sym q.is) q.small) t

-- a bound on what the machine reads back
pub w_read : {z : ℤ} {n : ℕ} → Within n z → T (ltb n (2 ^ 63)) → Within n (read z)
w_read {n = n} w t = subst (Within n) (sym (known w t).is) w

-- the result of `floor_div` by suc m, and of `unit_product`
pub floored : {x y z : ℤ} {n : ℕ} (m k : ℕ) → mag x < 2 ^ 63 → x ≡ floor_div y (suc m) → Num y z n → T (leb n (k * suc m)) → Num (read x) (floor_div z (suc m)) k
floored m k f e p t = got f (e ∙ (λ i. floor_div (p.is i) (suc m))) (w_floor m k p.small t)

pub unit_got : {x y w z v : ℤ} {m n : ℕ} (k : ℕ) → mag x < 2 ^ 63 → x ≡ unit_product y w → Num y z m → Num w v n → T (leb (m * n) (k * 1000000000)) → Num (read x) (unit_product z v) k
unit_got k f e p q t = got f (e ∙ (λ i. unit_product (p.is i) (q.is i))) (w_floor 999999999 k (w_mul p.small q.small) t)
