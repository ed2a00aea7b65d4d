-- Divisions that round: how far g times a result is from its number, for any floor and for the division that ends a turn.
-- A floor is less than its divisor off (Floor), an end of a turn at most half a unit; sums, signs and sizes of what is so near follow.
use mathlib.Core.Path.{◌≡◌, sym, ap, subst, ◌∙◌}
use mathlib.Core.Bool.{Bool, false}
use Prim.Native.Nat.{ℕ, suc, ◌+◌, ◌*◌, ◌/◌, ◌≤◌, ◌<◌}
use native.Mathlib.Nat.{le_refl}
use native.Mathlib.Omega.{arith}
use lib.Signed.{lt_z}
use lib.IntN.{ℤ, pos, negsuc, neg_ℤ, nat_abs, ◌+ℤ◌, ◌-ℤ◌, ◌*ℤ◌, -ℤ-+ℤ_cancel}
use Rattle.integers.specs.Range.{Within}
use Rattle.integers.specs.Sign.{signed}
use Rattle.integers.specs.Floor.{floor_div, end_turn, IsEnd}
use Rattle.integers.proofs.Difference.{up, dn, up_neg, dn_neg, zarith, ext, d_add, d_minus, d_mul, d_abs, abs_d}
use Rattle.integers.proofs.Ring.{abs_mul, abs_neg, abs_add_le, neg_mul, minus_plus, *ℤ-distrib_r}
use Rattle.integers.proofs.Floor.{floor_low, floor_high}
use Rattle.integers.proofs.Same.{no_less}

-- g x is within r of z
pub record Ends (g r : ℕ) (x z : ℤ) : Type 0 where
  pub off : nat_abs (x *ℤ pos g -ℤ z) ≤ r

-- ---- a floor
pub floor_ends : (z : ℤ) (g : ℕ) → Ends (suc g) (suc g) (floor_div z (suc g)) z
floor_ends z g =
    let q = floor_div z (suc g) in
    record { off = abs_d (q *ℤ pos (suc g) -ℤ z) (suc g) (omega (arith, d_minus (q *ℤ pos (suc g)) z, d_mul q (pos (suc g)), floor_low z g, floor_high z g)) }

-- ---- the division that ends a turn: what it is, that it is odd, and its bound
-- how far 10^9 times an end may be from what was divided: everything that goes by the rounding of a turn names this number
abbrev pub end_rest : ℕ
end_rest = 500000000

-- its two sides (Difference), and its size: what z has on a side, and half a unit, over a unit
not_below_0 : (n : ℕ) → lt_z (pos n) (pos 0) ≡ false
not_below_0 n = no_less (pos n) (pos 0) (omega zarith)

up_end : (z : ℤ) → up (end_turn z) ≡ (up z + 500000000) / 1000000000
unfolding end_turn
up_end (pos n) = ap (λ (s : Bool). up (signed s ((n + 500000000) / 1000000000))) (not_below_0 n)
up_end (negsuc n) = up_neg (pos ((suc n + 500000000) / 1000000000))

dn_end : (z : ℤ) → dn (end_turn z) ≡ (dn z + 500000000) / 1000000000
unfolding end_turn
dn_end (pos n) = ap (λ (s : Bool). dn (signed s ((n + 500000000) / 1000000000))) (not_below_0 n)
dn_end (negsuc n) = dn_neg (pos ((suc n + 500000000) / 1000000000))

end_size : (z : ℤ) → nat_abs (end_turn z) ≡ (nat_abs z + 500000000) / 1000000000
end_size (pos n) = omega (arith, d_abs (end_turn (pos n)), up_end (pos n), dn_end (pos n))
end_size (negsuc n) = omega (arith, d_abs (end_turn (negsuc n)), up_end (negsuc n), dn_end (negsuc n))

-- what 10^9 times q is off z
abbrev off_of : ℤ → ℤ → ℤ
off_of z q = q *ℤ pos 1000000000 -ℤ z

off_is : (z q : ℤ) → up (off_of z q) + (dn q * 1000000000 + up z) ≡ dn (off_of z q) + (up q * 1000000000 + dn z)
off_is z q = omega (arith, d_minus (q *ℤ pos 1000000000) z, d_mul q (pos 1000000000))

end_near : (z : ℤ) → nat_abs (off_of z (end_turn z)) ≤ 500000000
end_near (pos n) = abs_d (off_of (pos n) (end_turn (pos n))) 500000000 (omega (arith, off_is (pos n) (end_turn (pos n)), up_end (pos n), dn_end (pos n)))
end_near (negsuc n) =
    abs_d (off_of (negsuc n) (end_turn (negsuc n))) 500000000 (omega (arith, off_is (negsuc n) (end_turn (negsuc n)), up_end (negsuc n), dn_end (negsuc n)))

-- "to the nearest whole number, a half away from zero", and no other number is that
pub end_turn_is : (z : ℤ) → IsEnd z (end_turn z)
end_turn_is z = record { near = end_near z; beyond = omega (arith, end_size z) }

pub end_turn_only : (z q : ℤ) → IsEnd z q → q ≡ end_turn z
end_turn_only z q e = go z q (up (off_of z q)) (dn (off_of z q)) (off_is z q) (omega (arith, d_abs (off_of z q), e.near)) e.beyond
  where
    go : (z q : ℤ) (u d : ℕ) → u + (dn q * 1000000000 + up z) ≡ d + (up q * 1000000000 + dn z) → u + d ≤ 500000000 → nat_abs z < nat_abs q * 1000000000 + 500000000 → q ≡ end_turn z
    go (pos n) (pos m) u d f g h = ext (pos m) (end_turn (pos n)) (omega (arith, up_end (pos n), dn_end (pos n)))
    go (pos n) (negsuc m) u d f g h = absurd (omega arith)
    go (negsuc n) (pos m) u d f g h = ext (pos m) (end_turn (negsuc n)) (omega (arith, up_end (negsuc n), dn_end (negsuc n)))
    go (negsuc n) (negsuc m) u d f g h = ext (negsuc m) (end_turn (negsuc n)) (omega (arith, up_end (negsuc n), dn_end (negsuc n)))

pub end_turn_ends : (z : ℤ) → Ends 1000000000 end_rest (end_turn z) z
end_turn_ends z = record { off = end_near z }

-- the opposite ends in the opposite
pub end_turn_odd : (z : ℤ) → end_turn (neg_ℤ z) ≡ neg_ℤ (end_turn z)
end_turn_odd z =
    let n = neg_ℤ z in
    let q = end_turn z in
    ext (end_turn n) (neg_ℤ q) (omega (arith, up_end z, dn_end z, up_end n, dn_end n, up_neg z, dn_neg z, up_neg q, dn_neg q))

pub end_turn_within : {z : ℤ} {n : ℕ} (k : ℕ) → Within n z → n ≤ k * 1000000000 → Within k (end_turn z)
end_turn_within {z} k w h = record { within = omega (arith, end_size z, w.within) }

-- ---- sizes
pub abs_less : (a b : ℤ) → nat_abs a ≤ nat_abs (a -ℤ b) + nat_abs b
abs_less a b = subst (λ (z : ℤ). nat_abs z ≤ nat_abs (a -ℤ b) + nat_abs b) (-ℤ-+ℤ_cancel a b) (abs_add_le (a -ℤ b) b (le_refl (nat_abs (a -ℤ b))) (le_refl (nat_abs b)))

pub abs_turned : (a b : ℤ) → nat_abs (b -ℤ a) ≤ nat_abs (a -ℤ b)
abs_turned a b = abs_d (b -ℤ a) (nat_abs (a -ℤ b)) (omega (arith, d_minus a b, d_minus b a, d_abs (a -ℤ b)))

pub abs_more : (a b : ℤ) → nat_abs b ≤ nat_abs (a -ℤ b) + nat_abs a
abs_more a b = omega (arith, abs_less b a, abs_turned a b)

pub ends_size : {g r : ℕ} (x z : ℤ) → Ends g r x z → nat_abs x * g ≤ nat_abs z + r
ends_size {g} x z e = omega (arith, abs_mul x (pos g), e.off, abs_less (x *ℤ pos g) z)

pub ends_least : {g r : ℕ} (x z : ℤ) → Ends g r x z → nat_abs z ≤ nat_abs x * g + r
ends_least {g} x z e = omega (arith, abs_mul x (pos g), e.off, abs_more (x *ℤ pos g) z)

-- x k = y k + c makes c the difference times k
pub times_apart : (x y k c : ℤ) → x *ℤ k ≡ y *ℤ k +ℤ c → nat_abs (x -ℤ y) * nat_abs k ≡ nat_abs c
times_apart x y k c e =
    let f : y *ℤ k +ℤ (x -ℤ y) *ℤ k ≡ y *ℤ k +ℤ c = sym (*ℤ-distrib_r y (x -ℤ y) k) ∙ ap (λ (z : ℤ). z *ℤ k) (minus_plus x y) ∙ e in
    let d = (x -ℤ y) *ℤ k in
    sym (abs_mul (x -ℤ y) k) ∙ ap nat_abs (same (y *ℤ k) d f)
  where
    same : (a b : ℤ) → a +ℤ b ≡ a +ℤ c → b ≡ c
    same a b f = omega (zarith, d_add a b, d_add a c)

-- ---- sums and signs
pub ends_add : {g r s : ℕ} (x y z w : ℤ) → Ends g r x z → Ends g s y w → Ends g (r + s) (x +ℤ y) (z +ℤ w)
ends_add {g} x y z w p q =
    let e : (x +ℤ y) *ℤ pos g -ℤ (z +ℤ w) ≡ (x *ℤ pos g -ℤ z) +ℤ (y *ℤ pos g -ℤ w) =
    ap (λ (k : ℤ). k -ℤ (z +ℤ w)) (*ℤ-distrib_r x y (pos g)) ∙ sorted (x *ℤ pos g) (y *ℤ pos g) in
    record { off = rw e (abs_add_le (x *ℤ pos g -ℤ z) (y *ℤ pos g -ℤ w) p.off q.off) }
  where
    sorted : (a b : ℤ) → (a +ℤ b) -ℤ (z +ℤ w) ≡ (a -ℤ z) +ℤ (b -ℤ w)
    sorted a b = omega (zarith, d_add a b, d_add z w, d_minus (a +ℤ b) (z +ℤ w), d_minus a z, d_minus b w, d_add (a -ℤ z) (b -ℤ w))

pub ends_neg : {g r : ℕ} (x z : ℤ) → Ends g r x z → Ends g r (neg_ℤ x) (neg_ℤ z)
ends_neg {g} x z p = record { off = rw e (rw (abs_neg (x *ℤ pos g -ℤ z)) p.off) }
  where
    turned : (a b : ℤ) → neg_ℤ a -ℤ neg_ℤ b ≡ neg_ℤ (a -ℤ b)
    turned a b = omega (zarith, d_minus (neg_ℤ a) (neg_ℤ b), d_minus a b, up_neg a, dn_neg a, up_neg b, dn_neg b, up_neg (a -ℤ b), dn_neg (a -ℤ b))

    e : neg_ℤ x *ℤ pos g -ℤ neg_ℤ z ≡ neg_ℤ (x *ℤ pos g -ℤ z)
    e = ap (λ (k : ℤ). k -ℤ neg_ℤ z) (neg_mul x (pos g)) ∙ turned (x *ℤ pos g) z
