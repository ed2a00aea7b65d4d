-- `plane_x` is step 4's x': floor(a (cosine - 10 e) / 10^10).
-- |cosine - 10 e| is at most 10 (10^8 + e), and a (10^8 + e) at most 50 au.
use mathlib.Core.Path.{ap, ◌∙◌}
use Prim.Native.Nat.{ℕ, ◌+◌, ◌*◌, ◌^◌, ◌<◌, ◌≤◌}
use native.Mathlib.Omega.{arith}
use lib.IntN.{ℤ, pos, nat_abs, ◌-ℤ◌, ◌*ℤ◌}
use Rattle.integers.specs.Floor.{floor_div}
use Rattle.integers.proofs.Cast.{read, back_ok}
use Rattle.integers.proofs.Number.{Num, arg, known, lit, w_lit, mul<, mul_fits<, sub<, sub_fits<}
use Rattle.integers.proofs.Ranges.{range_most}
use Rattle.orbits.proofs.plane_x.Goals as goal
use Rattle.orbits.proofs.plane_x.Goals.{Start}

module _ (s : Start) where
  abbrev n : ℕ
  n = nat_abs s.args.e

  small : n ≤ 90000000
  small = range_most 0 s.args.e s.requires.axis_fits.elliptic

  e : Num (read s.args.e) s.args.e n
  e = arg s.ranges.e (w_lit s.args.e)

  a : Num (read s.args.a) s.args.a (nat_abs s.args.a)
  a = arg s.ranges.a (w_lit s.args.a)

  ten : 10 * n < 2 ^ 63
  ten = omega (arith, small)

  tenfold : Num (read (pos 10 *ℤ read s.args.e)) (pos 10 *ℤ s.args.e) (10 * n)
  tenfold = mul< (lit (pos 10)) e ten

  sum : 1000000000 + 10 * n < 2 ^ 63
  sum = omega (arith, small)

  apart : Num (read (read s.args.cosine -ℤ read (pos 10 *ℤ read s.args.e))) (s.args.cosine -ℤ pos 10 *ℤ s.args.e) (1000000000 + 10 * n)
  apart = sub< (known s.requires.within tt) tenfold sum

  far : nat_abs s.args.a * (1000000000 + 10 * n) < 2 ^ 63
  far = omega (arith, s.requires.axis_fits.aphelion)

pub overflow_mul-e : goal.overflow_mul-e
overflow_mul-e c = mul_fits< (lit (pos 10)) (e c) (ten c)

pub overflow_sub-cosine : goal.overflow_sub-cosine
overflow_sub-cosine c = sub_fits< (known c.requires.within tt) (tenfold c) (sum c)

pub overflow_mul-a : goal.overflow_mul-a
overflow_mul-a c = mul_fits< (a c) (apart c) (far c)

pub returns : goal.returns
returns c =
    back_ok c.floor_div.result c.floor_div.type_inv ∙ c.floor_div.ensures
    ∙ ap (λ (z : ℤ). floor_div z 10000000000) (mul< (a c.before) (apart c.before) (far c.before)).is
