-- `dot` is the sum of three products, none of which overflows where the sum of their sizes fits.
-- Each element is a number with its own size for a bound, and so is each product and each sum.
use Prim.Native.Nat.{ℕ, ◌+◌, ◌*◌, ◌^◌, ◌<◌}
use native.Mathlib.Omega.{arith}
use lib.IntN.{nat_abs, ◌*ℤ◌}
use Rattle.integers.proofs.Cast.{read}
use Rattle.integers.proofs.Number.{Num, arg, w_lit, mul_fits<, mul<, add_fits<, add<}
use Rattle.integers.specs.Triple.{at}
use Rattle.integers.proofs.Arrays.{part_fits}
use Rattle.vectors.proofs.dot.Goals as goal
use Rattle.vectors.proofs.dot.Goals.{Start}

module _ (t : Start) where
  abbrev size : ℕ → ℕ
  size k = nat_abs (at t.args.a k) * nat_abs (at t.args.v k)

  a : (k : ℕ) → Num (read (at t.args.a k)) (at t.args.a k) (nat_abs (at t.args.a k))
  a k = arg (part_fits t.args.a t.well_formed.0.0 t.well_formed.0.1.1 k) (w_lit (at t.args.a k))

  v : (k : ℕ) → Num (read (at t.args.v k)) (at t.args.v k) (nat_abs (at t.args.v k))
  v k = arg (part_fits t.args.v t.well_formed.1.0.0 t.well_formed.1.0.1.1 k) (w_lit (at t.args.v k))

  first : size 0 < 2 ^ 63
  first = omega (arith, t.requires.sum)

  second : size 1 < 2 ^ 63
  second = omega (arith, t.requires.sum)

  third : size 2 < 2 ^ 63
  third = omega (arith, t.requires.sum)

  both : size 0 + size 1 < 2 ^ 63
  both = omega (arith, t.requires.sum)

  by : (k : ℕ) → size k < 2 ^ 63 → Num (read (read (at t.args.a k) *ℤ read (at t.args.v k))) (at t.args.a k *ℤ at t.args.v k) (size k)
  by k l = mul< (a k) (v k) l

pub overflow_mul-result : goal.overflow_mul-result
overflow_mul-result c = let t = c.before.before in mul_fits< (a t 0) (v t 0) (first t)

pub overflow_mul-result-2 : goal.overflow_mul-result-2
overflow_mul-result-2 c = let t = c.before.before.before.before in mul_fits< (a t 1) (v t 1) (second t)

pub overflow_add-result : goal.overflow_add-result
overflow_add-result c = let t = c.before.before.before.before in add_fits< (by t 0 (first t)) (by t 1 (second t)) (both t)

pub overflow_mul-result-3 : goal.overflow_mul-result-3
overflow_mul-result-3 c = let t = c.before.before.before.before.before.before in mul_fits< (a t 2) (v t 2) (third t)

pub overflow_add-result-2 : goal.overflow_add-result-2
overflow_add-result-2 c =
    let t = c.before.before.before.before.before.before in
    add_fits< (add< (by t 0 (first t)) (by t 1 (second t)) (both t)) (by t 2 (third t)) t.requires.sum

pub returns : goal.returns
returns c =
    let t = c.before.before.before.before.before.before in
    (add< (add< (by t 0 (first t)) (by t 1 (second t)) (both t)) (by t 2 (third t)) t.requires.sum).is
