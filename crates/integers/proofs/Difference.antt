-- Facts of ℤ as facts of ℕ, which omega proves: z is up z - dn z, and one of the two is 0.
-- Each operation and each order has one law in these terms; the ruleset `zarith` hands them to omega.
use Prim.Native.Nat.{ℕ, zero, suc, ◌+◌, ◌*◌, ◌-◌, ◌^◌, ◌<◌, ◌≤◌}
use native.Mathlib.Omega.{arith}
use mathlib.Core.Path.{◌≡◌, refl, sym, ap, subst}
use mathlib.Core.Bool.{Bool, true, false, not, cond}
use lib.Dec.{T, ltb, ltb→lt, nltb→le, leb→le, nleb→lt, lt→ltb, le→leb}
use lib.IntN.{ℤ, pos, negsuc, nat_abs, neg_ℤ, sub_ℕ, ◌+ℤ◌, ◌-ℤ◌, ◌*ℤ◌}
use lib.Signed.{lt_z, le_z, ◌≤ℤ◌, ◌<ℤ◌}
use mir.Syntax.{w64}
use mir.Val.{SFits}

abbrev pub up : ℤ → ℕ
up (pos n) = n
up (negsuc n) = 0

abbrev pub dn : ℤ → ℕ
dn (pos n) = 0
dn (negsuc n) = suc n

-- ---- operations
cond_ind : (c : Bool) (x y : ℤ) (P : ℤ → Type 0) → (T c → P x) → (T (not c) → P y) → P (cond c x y)
cond_ind true x y P f g = f tt
cond_ind false x y P f g = g tt

pub d_sub : (a b : ℕ) → up (sub_ℕ a b) + b ≡ dn (sub_ℕ a b) + a
d_sub a b = cond_ind (ltb a b) (negsuc (b - suc a)) (pos (a - b)) (λ z. up z + b ≡ dn z + a) (λ t. omega (arith, ltb→lt)) (λ t. omega (arith, nltb→le))

pub d_add : (a b : ℤ) → up (a +ℤ b) + (dn a + dn b) ≡ dn (a +ℤ b) + (up a + up b)
d_add (pos a) (pos b) = omega arith
d_add (pos a) (negsuc b) = omega (arith, d_sub a (suc b))
d_add (negsuc a) (pos b) = omega (arith, d_sub b (suc a))
d_add (negsuc a) (negsuc b) = omega arith

pub up_neg : (a : ℤ) → up (neg_ℤ a) ≡ dn a
up_neg (pos zero) = refl
up_neg (pos (suc n)) = refl
up_neg (negsuc n) = refl

pub dn_neg : (a : ℤ) → dn (neg_ℤ a) ≡ up a
dn_neg (pos zero) = refl
dn_neg (pos (suc n)) = refl
dn_neg (negsuc n) = refl

pub d_minus : (a b : ℤ) → up (a -ℤ b) + (dn a + up b) ≡ dn (a -ℤ b) + (up a + dn b)
d_minus a b = omega (arith, d_add a (neg_ℤ b), up_neg b, dn_neg b)

pub d_mul : (a b : ℤ) → up (a *ℤ b) + (up a * dn b + dn a * up b) ≡ dn (a *ℤ b) + (up a * up b + dn a * dn b)
d_mul (pos a) (pos b) = omega arith
d_mul (pos a) (negsuc b) = omega (arith, up_neg (pos (a * suc b)), dn_neg (pos (a * suc b)))
d_mul (negsuc a) (pos b) = omega (arith, up_neg (pos (suc a * b)), dn_neg (pos (suc a * b)))
d_mul (negsuc a) (negsuc b) = omega arith

pub d_abs : (z : ℤ) → nat_abs z ≡ up z + dn z
d_abs (pos n) = omega arith
d_abs (negsuc n) = omega arith

-- ---- equality and order, both ways
pub ext : (a b : ℤ) → up a + dn b ≡ up b + dn a → a ≡ b
ext (pos a) (pos b) h = ap pos (omega arith)
ext (pos a) (negsuc b) h = absurd (omega arith)
ext (negsuc a) (pos b) h = absurd (omega arith)
ext (negsuc a) (negsuc b) h = ap negsuc (omega arith)

pub eq_d : (a b : ℤ) → a ≡ b → up a + dn b ≡ up b + dn a
eq_d a b e = subst (λ (z : ℤ). up a + dn z ≡ up z + dn a) e refl

pub le_d : (a b : ℤ) → a ≤ℤ b → up a + dn b ≤ up b + dn a
le_d (pos a) (pos b) h = omega (arith, leb→le a b h.le)
le_d (pos a) (negsuc b) h = absurd h.le
le_d (negsuc a) (pos b) h = omega arith
le_d (negsuc a) (negsuc b) h = omega (arith, leb→le b a h.le)

pub lt_d : (a b : ℤ) → a <ℤ b → up a + dn b < up b + dn a
lt_d (pos a) (pos b) h = omega (arith, ltb→lt a b h.lt)
lt_d (pos a) (negsuc b) h = absurd h.lt
lt_d (negsuc a) (pos b) h = omega arith
lt_d (negsuc a) (negsuc b) h = omega (arith, ltb→lt b a h.lt)

pub d_le : (a b : ℤ) → up a + dn b ≤ up b + dn a → a ≤ℤ b
d_le (pos a) (pos b) h = record { le = le→leb a b (omega arith) }
d_le (pos a) (negsuc b) h = absurd (omega arith)
d_le (negsuc a) (pos b) h = record { le = tt }
d_le (negsuc a) (negsuc b) h = record { le = le→leb b a (omega arith) }

pub d_lt : (a b : ℤ) → up a + dn b < up b + dn a → a <ℤ b
d_lt (pos a) (pos b) h = record { lt = lt→ltb a b (omega arith) }
d_lt (pos a) (negsuc b) h = absurd (omega arith)
d_lt (negsuc a) (pos b) h = record { lt = tt }
d_lt (negsuc a) (negsuc b) h = record { lt = lt→ltb b a (omega arith) }

-- ---- the machine's tests
pub lt_z_true : (a b : ℤ) → lt_z a b ≡ true → up a + dn b < up b + dn a
lt_z_true a b e = lt_d a b (record { lt = subst T (sym e) tt })

pub le_z_true : (a b : ℤ) → le_z a b ≡ true → up a + dn b ≤ up b + dn a
le_z_true a b e = le_d a b (record { le = subst T (sym e) tt })

is_not : {x : Bool} → x ≡ false → T (not x)
is_not e = subst (λ (t : Bool). T (not t)) (sym e) tt

pub le_z_false : (a b : ℤ) → le_z a b ≡ false → up b + dn a < up a + dn b
le_z_false (pos a) (pos b) e = omega (arith, nleb→lt a b (is_not e))
le_z_false (pos a) (negsuc b) e = omega arith
le_z_false (negsuc a) (pos b) e = absurd (is_not e)
le_z_false (negsuc a) (negsuc b) e = omega (arith, nleb→lt b a (is_not e))

pub lt_z_false : (a b : ℤ) → lt_z a b ≡ false → up b + dn a ≤ up a + dn b
lt_z_false (pos a) (pos b) e = omega (arith, nltb→le a b (is_not e))
lt_z_false (pos a) (negsuc b) e = omega arith
lt_z_false (negsuc a) (pos b) e = absurd (is_not e)
lt_z_false (negsuc a) (negsuc b) e = omega (arith, nltb→le b a (is_not e))

-- ---- a fit of 64 bits, both ways; the second has both bounds in one statement, since omega applies one rule to a fact
pub fits_d : (z : ℤ) → (up z - dn z) + (dn z - suc (up z)) < 2 ^ 63 → SFits w64 z
fits_d (pos n) h = record { sfits = omega arith }
fits_d (negsuc n) h = record { sfits = omega arith }

pub d_fits : (z : ℤ) → SFits w64 z → 0x8000_0000_0000_0000 * up z + 0x7fff_ffff_ffff_ffff * dn z ≤ 0x8000_0000_0000_0000 * 0x7fff_ffff_ffff_ffff
d_fits (pos n) h = omega arith
d_fits (negsuc n) h = omega arith

pub ruleset zarith = (arith, fits_d, d_fits, lt_z_true, le_z_true, lt_z_false, le_z_false, le_d, lt_d, eq_d, ext, d_le, d_lt)

-- ---- one side is 0, and a bound on one side
pub dn_zero : (z : ℤ) → dn z ≤ up z → dn z ≡ 0
dn_zero (pos n) h = refl
dn_zero (negsuc n) h = absurd (omega arith)

pub up_less : (z : ℤ) (n : ℕ) → up z < dn z + n → 0 < n → up z < n
up_less (pos z) n h p = omega arith
up_less (negsuc z) n h p = omega arith

pub abs_d : (z : ℤ) (n : ℕ) → (up z - dn z) + (dn z - up z) ≤ n → nat_abs z ≤ n
abs_d (pos z) n h = omega arith
abs_d (negsuc z) n h = omega arith
