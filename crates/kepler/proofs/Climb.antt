-- `raised` rises, at each step by less than 2·10^9, and its ends are 0 and 360·10^15.
-- A step of the sine changes by at most 18, and 18 e* is below 10^9.
use mathlib.Core.Path.{◌≡◌}
use Prim.Native.Nat.{ℕ, ◌+◌, ◌-◌, ◌*◌, ◌≤◌, ◌<◌}
use native.Mathlib.Nat.{mul-add, mul-zero, mul-le-mul_left, mul-le-mul}
use native.Mathlib.Decide.{dec_lt}
use native.Mathlib.Omega.{arith}
use Rattle.angles.specs.Sine.{half_sine}
use Rattle.angles.proofs.Steps.{half_step, half_top, half_zero, half_past}
use Rattle.kepler.specs.Search.{raised}

-- a multiple of two numbers that are close
scaled : (es x y : ℕ) → es ≤ 51566202 → y ≤ x + 18 → es * y ≤ es * x + 928191636
scaled es x y h c =
    let a = mul-le-mul_left es c in
    let b = mul-add es x 18 in
    omega arith

pub half_fits : (es n : ℕ) → es ≤ 51566202 → es * half_sine n ≤ 51566202000000000
half_fits es n h = mul-le-mul h (half_top n)

pub record Up (x y : ℕ) : Type 0 where
  pub more : x < y
  pub less : y < x + 2000000000

pub raised_step : (es n : ℕ) → es ≤ 51566202 → n < 360000000 → Up (raised es n) (raised es (n + 1))
unfolding raised
raised_step es n h l = go (dec_lt n 180000000)
  where
    z : es * 0 ≡ 0
    z = mul-zero es

    go : Dec (n < 180000000) → Up (raised es n) (raised es (n + 1))
    go (yes d) =
        let e : n - 180000000 ≡ 0 = omega arith in
        let e1 : n + 1 - 180000000 ≡ 0 = omega arith in
        let c = half_step n d in
        let u = scaled es (half_sine n) (half_sine (n + 1)) h c.up in
        let v = scaled es (half_sine (n + 1)) (half_sine n) h c.down in
        rw (e, e1, half_zero) (omega (arith, z))
    go (no d) =
        let e : n + 1 - 180000000 ≡ n - 180000000 + 1 = omega arith in
        let p = half_past n (omega arith) in
        let p1 = half_past (n + 1) (omega arith) in
        let c = half_step (n - 180000000) (omega arith) in
        let u = scaled es (half_sine (n - 180000000)) (half_sine (n - 180000000 + 1)) h c.up in
        let v = scaled es (half_sine (n - 180000000 + 1)) (half_sine (n - 180000000)) h c.down in
        let f = half_fits es (n - 180000000) h in
        let g = half_fits es (n - 180000000 + 1) h in
        rw (e, p, p1) (omega (arith, z))

pub raised_zero : (es : ℕ) → raised es 0 ≡ 0
unfolding raised
raised_zero es = rw half_zero (omega (arith, mul-zero es))

pub raised_end : (es : ℕ) → raised es 360000000 ≡ 360000000000000000
unfolding raised
raised_end es =
    let p = half_past 360000000 (omega arith) in
    let p1 = half_past 180000000 (omega arith) in
    rw (p, p1) (omega (arith, mul-zero es))

pub raised_right : (es n : ℕ) → 180000000 ≤ n → 1000000000 * n - es * half_sine (n - 180000000) ≡ raised es n
unfolding raised
raised_right es n h = rw (half_past n h) (omega (arith, mul-zero es))

pub raised_low : (es n : ℕ) → n ≤ 180000000 → 1000000000 * n + es * half_sine n ≡ raised es n
unfolding raised
raised_low es n h =
    let e : n - 180000000 ≡ 0 = omega arith in
    rw (e, half_zero) (omega (arith, mul-zero es))
