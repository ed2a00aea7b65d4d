-- An ellipse like the Earth's keeps away from the Sun: x'² + y'² is at least 9,800,000², and x' and y' are at most 10,200,000.
-- (a cos E, a sin E) has nearly the length a, by the law of squares; x' and y' differ from it by a e and a (1 - f), and by roundings.
use mathlib.Core.Path.{ap}
use Prim.Native.Nat.{ℕ, ◌+◌, ◌*◌, ◌≤◌}
use native.Mathlib.Nat.{mul-le-mul, mul-le-mul_left, mul-le-mul_right}
use native.Mathlib.Omega.{arith}
use lib.IntN.{ℤ, pos, nat_abs, ◌-ℤ◌, ◌*ℤ◌}
use Rattle.integers.specs.Range.{Within, FromTo}
use Rattle.integers.specs.Floor.{floor_div}
use Rattle.integers.proofs.Ring.{abs_mul}
use Rattle.integers.proofs.Squares.{square_mono, near_long}
use Rattle.integers.proofs.Ends.{floor_ends, abs_less, ends_least}
use Rattle.integers.proofs.Ranges.{range_most, range_least, range_more}
use Rattle.integers.proofs.Number.{w_mul, w_sub, w_lit, w_most, w_floor}
use Rattle.angles.specs.Sine.{sine_of, cosine_of}
use Rattle.angles.proofs.Laws.{sine_small, cosine_small}
use Rattle.angles.proofs.Squares.{NearCircle, squares}
use Rattle.kepler.specs.Equation.{Elliptic}
use Rattle.orbits.specs.Place.{minor_of, plane_x, plane_y}
use Rattle.orbits.proofs.Bounds.{minor_is_root, minor_small}

-- ---- what is asked of a and e: near 1 au, and no longer than e = 0.019
module _ (a e E : ℤ) (axis : FromTo (pos 99990000) (pos 100010000) a) (short : FromTo (pos 0) (pos 1900000) e) where
  a_high : nat_abs a ≤ 100010000
  a_high = range_most 99990000 a axis

  e_high : nat_abs e ≤ 1900000
  e_high = range_most 0 e short

  elliptic : Elliptic e
  elliptic = range_more short tt tt

  -- ---- how near x' and y' are to a cos E and a sin E: a count of 10^10 stands for one of theirs
  x_near : nat_abs a * nat_abs (cosine_of E) ≤ nat_abs (plane_x a e E) * 10000000000 + 1900200000000000
  unfolding plane_x
  x_near =
      let d = cosine_of E -ℤ pos 10 *ℤ e in
      let n = ends_least (plane_x a e E) (a *ℤ d) (floor_ends (a *ℤ d) 9999999999) in
      let l = mul-le-mul_left (nat_abs a) (abs_less (cosine_of E) (pos 10 *ℤ e)) in
      let p = mul-le-mul a_high e_high in
      omega (arith, abs_mul a d, ap (λ (k : ℕ). nat_abs a * k) (abs_mul (pos 10) e))

  minor_low : 999819483 ≤ nat_abs (minor_of e)
  minor_low =
      let q = square_mono (nat_abs e) 1900000 e_high in
      (minor_is_root e elliptic).greatest 999819483 (omega arith)

  y_near : nat_abs a * nat_abs (sine_of E) ≤ nat_abs (plane_y a e E) * 10000000000 + 18073505170000
  unfolding plane_y
  y_near =
      let g = minor_of e in
      let F = floor_div (a *ℤ g) 10000000000 in
      let s = sine_of E in
      let n = ends_least (plane_y a e E) (F *ℤ s) (floor_ends (F *ℤ s) 999999999) in
      let o = ends_least F (a *ℤ g) (floor_ends (a *ℤ g) 9999999999) in
      added (nat_abs a) (nat_abs g) (nat_abs F) (nat_abs s) (nat_abs (plane_y a e E)) a_high minor_low (sine_small E).within
      (omega (arith, abs_mul F s)) (omega (arith, abs_mul a g))
    where
      added : (a g k s y : ℕ) → a ≤ 100010000 → 999819483 ≤ g → s ≤ 1000000000 → k * s ≤ y * 1000000000 + 1000000000 → a * g ≤ k * 10000000000 + 10000000000 → a * s ≤ y * 10000000000 + 18073505170000
      added a g k s y ha hg hs hy hk =
          let p = mul-le-mul_right s hk in
          let q = mul-le-mul_left (a * s) hg in
          let r = mul-le-mul ha hs in
          omega arith

  pub plane_long : 9800000 * 9800000 ≤ nat_abs (plane_x a e E) * nat_abs (plane_x a e E) + nat_abs (plane_y a e E) * nat_abs (plane_y a e E)
  plane_long = scaled (nat_abs a) (nat_abs (plane_x a e E)) (nat_abs (plane_y a e E)) (nat_abs (sine_of E)) (nat_abs (cosine_of E)) (range_least 99990000 a axis) x_near y_near (squares E)
    where
      scaled : (a x y s c : ℕ) → 99990000 ≤ a → a * c ≤ x * 10000000000 + 1900200000000000 → a * s ≤ y * 10000000000 + 18073505170000 → NearCircle s c → 9800000 * 9800000 ≤ x * x + y * y
      scaled a x y s c l hx hy u =
          let p = mul-le-mul l l in
          let q = mul-le-mul p u.low in
          let n = near_long (x * 10000000000) (y * 10000000000) (a * c) (a * s) 1900200000000000 18073505170000 98000000000000000 99989961603840000 (omega arith) hx hy (omega arith) in
          omega arith

  -- ---- how far they reach
  pub plane_x_most : Within 10200000 (plane_x a e E)
  unfolding plane_x
  plane_x_most =
      let ten : Within 19000000 (pos 10 *ℤ e) = w_most (w_mul (w_lit (pos 10)) (w_lit e)) (let h = e_high in omega arith) in
      w_floor 9999999999 10200000 (w_mul {a = a} (record { within = a_high }) (w_sub (cosine_small E) ten)) tt

  pub plane_y_most : Within 10200000 (plane_y a e E)
  unfolding plane_y
  plane_y_most = w_floor 999999999 10200000 (w_mul (w_floor 9999999999 10200000 (w_mul {a = a} (record { within = a_high }) (minor_small e elliptic)) tt) (sine_small E)) tt
