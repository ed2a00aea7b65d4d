-- `mul_div` gives floor(a b / d) though a b need not fit: with b = q d + s and a = u d + v it is a q + u s + floor(v s / d).
-- Each part is the machine's quotient or rest with a bound, and the identity is `floor_split`.
use Prim.Native.Nat.{ℕ, ◌*◌, ◌/◌, ◌<◌, ◌^◌}
use native.Mathlib.Omega.{arith}
use native.Mathlib.Nat.{le_refl, le_of_lt}
use mathlib.Core.Path.{◌∙◌}
use lib.IntN.{ℤ, pos, nat_abs, ◌*ℤ◌}
use lib.Signed.{quot_z, rem_z}
use mir.Syntax.{w64}
use mir.Val.{SFits}
use Rattle.integers.specs.Floor.{floor_div}
use Rattle.integers.proofs.Floor.{abs_pos, quot_rem, quot_abs, rem_small, floor_split}
use Rattle.integers.proofs.Cast.{read, back}
use Rattle.integers.proofs.Number.{Num, arg, got, w_lit, w_floor<, mul_fits<, mul<, add_fits<, add<}
use Rattle.integers.proofs.Division.{quotient, rest}
use Rattle.integers.proofs.mul_div.Goals as goal
use Rattle.integers.proofs.mul_div.Goals.{After-floor_div, Start}

module _ (t : Start) where
  abbrev a : ℤ
  a = t.args.a

  abbrev b : ℤ
  b = t.args.b

  abbrev d : ℤ
  d = t.args.d

  abbrev m : ℕ
  m = nat_abs d

  0<m : 0 < m
  0<m = abs_pos d t.requires.pos_bound

  na : Num (read a) a (nat_abs a)
  na = arg t.ranges.a (w_lit a)

  -- a quotient and a rest of the machine's
  by : (z : ℤ) → SFits w64 z → Num (read (quot_z (read z) (read d))) (quot_z z (pos m)) (nat_abs z / m)
  by z f = record { is = quotient z d f t.ranges.d t.requires.pos_bound; small = record { within = rw (quot_abs z m) (le_refl (nat_abs z / m)) } }

  left : (z : ℤ) → SFits w64 z → Num (read (rem_z (read z) (read d))) (rem_z z (pos m)) m
  left z f = record { is = rest z d f t.ranges.d t.requires.pos_bound; small = record { within = le_of_lt (rem_small z m 0<m) } }

  aq_less : nat_abs a * (nat_abs b / m) < 2 ^ 63
  aq_less = omega (arith, t.requires.split_fits.sums)

  us_less : nat_abs a / m * m < 2 ^ 63
  us_less = omega (arith, t.requires.split_fits.sums)

  aq : Num (read (read a *ℤ read (quot_z (read b) (read d)))) (a *ℤ quot_z b (pos m)) (nat_abs a * (nat_abs b / m))
  aq = mul< na (by b t.ranges.b) aq_less

  us : Num (read (read (quot_z (read a) (read d)) *ℤ read (rem_z (read b) (read d)))) (quot_z a (pos m) *ℤ rem_z b (pos m)) (nat_abs a / m * m)
  us = mul< (by a t.ranges.a) (left b t.ranges.b) us_less

  vs : Num (read (read (rem_z (read a) (read d)) *ℤ read (rem_z (read b) (read d)))) (rem_z a (pos m) *ℤ rem_z b (pos m)) (m * m)
  vs = mul< (left a t.ranges.a) (left b t.ranges.b) t.requires.split_fits.rests

pub overflow_mul-result : goal.overflow_mul-result
overflow_mul-result c = mul_fits< (na c) (by c (b c) c.ranges.b) (aq_less c)

pub overflow_mul-result-2 : goal.overflow_mul-result-2
overflow_mul-result-2 c = mul_fits< (by c (a c) c.ranges.a) (left c (b c) c.ranges.b) (us_less c)

pub overflow_add-result : goal.overflow_add-result
overflow_add-result c = add_fits< (aq c) (us c) (omega (arith, c.requires.split_fits.sums))

pub overflow_mul-v : goal.overflow_mul-v
overflow_mul-v c = mul_fits< (left c (a c) c.ranges.a) (left c (b c) c.ranges.b) c.requires.split_fits.rests

f : (c : After-floor_div) → Num (read c.floor_div.result) (floor_div (rem_z (a c.before) (pos (m c.before)) *ℤ rem_z (b c.before) (pos (m c.before))) (m c.before)) (m c.before)
f c =
    let t = c.before in
    got c.floor_div.type_inv (c.floor_div.ensures ∙ (λ i. floor_div ((vs t).is i) (nat_abs (back (d t) t.ranges.d i))))
    (w_floor< (m t) (m t) (0<m t) (vs t).small (le_refl (m t * m t)))

pub overflow_add-result-2 : goal.overflow_add-result-2
overflow_add-result-2 c =
    let t = c.before in
    add_fits< (add< (aq t) (us t) (omega (arith, t.requires.split_fits.sums))) (f c) t.requires.split_fits.sums

pub returns : goal.returns
returns c =
    let t = c.before in
    (add< (add< (aq t) (us t) (omega (arith, t.requires.split_fits.sums))) (f c) t.requires.split_fits.sums).is
    ∙ floor_split (a t) (b t) (quot_z (a t) (pos (m t))) (rem_z (a t) (pos (m t))) (quot_z (b t) (pos (m t))) (rem_z (b t) (pos (m t))) (m t) (0<m t) (quot_rem (a t) (m t)) (quot_rem (b t) (m t))
