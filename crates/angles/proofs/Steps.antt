-- The sine from one millionth of a degree to the next: it rises by at most 18 in the first quarter, and changes by at most 18 in the half turn.
-- Within one tenth of a degree by the line's slope, across an entry since the line meets it there.
use mathlib.Core.Path.{◌≡◌, refl, sym, ap, ◌∙◌}
use Prim.Native.Nat.{ℕ, ◌+◌, ◌-◌, ◌/◌, ◌%◌, ◌≤◌, ◌<◌, min}
use native.Mathlib.Nat.{mul-add, mul-zero, mul-le-mul_left}
use native.Mathlib.Decide.{dec_lt}
use native.Mathlib.Omega.{arith}
use borrow.Author.Tests.{eq-eqb, ne_eqb}
use Rattle.angles.specs.Entry.{entry, plus_terms, minus_terms, term, part, whole, factorial}
use Rattle.angles.specs.Sine.{between, folded, quarter_sine, half_sine, rise_of}
use Rattle.angles.proofs.Facts.{Near, neighbours}

-- a step up by at most 18
pub record Step (x y : ℕ) : Type 0 where
  pub rises : x ≤ y
  pub near : y ≤ x + 18

-- a step of at most 18, up or down
pub record Close (x y : ℕ) : Type 0 where
  pub up : y ≤ x + 18
  pub down : x ≤ y + 18

inside : (a b r : ℕ) → Near a b → Step (between a b r) (between a b (r + 1))
inside a b r n = let e = mul-add (b - a) r 1 in omega arith

across : (a b c : ℕ) → Near a b → Step (between a b 99999) (between b c 0)
across a b c n = let e = mul-zero (c - b) in omega arith

pub at_most : (a b r : ℕ) → r ≤ 100000 → Near a b → between a b r ≤ b
at_most a b r h n = let e = mul-le-mul_left (b - a) h in omega arith

pub quarter_step : (t : ℕ) → t < 90000000 → Step (quarter_sine t) (quarter_sine (t + 1))
unfolding quarter_sine
quarter_step t h = go (dec_lt (t % 100000 + 1) 100000)
  where
    go : Dec (t % 100000 + 1 < 100000) → Step (quarter_sine t) (quarter_sine (t + 1))
    go (yes l) =
        let ek : (t + 1) / 100000 ≡ t / 100000 = omega arith in
        let er : (t + 1) % 100000 ≡ t % 100000 + 1 = omega arith in
        rw (ek, er) (inside (entry (t / 100000)) (entry (t / 100000 + 1)) (t % 100000) (neighbours (t / 100000) (omega arith)))
    go (no n) =
        let ek : (t + 1) / 100000 ≡ t / 100000 + 1 = omega arith in
        let er : (t + 1) % 100000 ≡ 0 = omega arith in
        let e9 : t % 100000 ≡ 99999 = omega arith in
        rw (ek, er, e9) (across (entry (t / 100000)) (entry (t / 100000 + 1)) (entry (t / 100000 + 1 + 1)) (neighbours (t / 100000) (omega arith)))

pub quarter_top : (t : ℕ) → t ≤ 90000000 → quarter_sine t ≤ 1000000000
unfolding quarter_sine
quarter_top t h = go (dec_lt (t / 100000) 900)
  where
    go : Dec (t / 100000 < 900) → quarter_sine t ≤ 1000000000
    go (yes l) =
        let n = neighbours (t / 100000) l in
        let m = at_most (entry (t / 100000)) (entry (t / 100000 + 1)) (t % 100000) (omega arith) n in
        omega arith
    go (no n) =
        let ek : t / 100000 ≡ 899 + 1 = omega arith in
        let er : t % 100000 ≡ 0 = omega arith in
        let m = neighbours 899 (omega arith) in
        let z = mul-zero (entry (899 + 1 + 1) - entry (899 + 1)) in
        rw (ek, er) (omega arith)

pub half_step : (t : ℕ) → t < 180000000 → Close (half_sine t) (half_sine (t + 1))
unfolding half_sine
half_step t h = go (dec_lt t 90000000)
  where
    go : Dec (t < 90000000) → Close (half_sine t) (half_sine (t + 1))
    go (yes l) =
        let e : min t (180000000 - t) ≡ t = omega arith in
        let e1 : min (t + 1) (180000000 - (t + 1)) ≡ t + 1 = omega arith in
        let s = quarter_step t l in
        rw (e, e1) (omega arith)
    go (no n) =
        let e : min t (180000000 - t) ≡ 180000000 - (t + 1) + 1 = omega arith in
        let e1 : min (t + 1) (180000000 - (t + 1)) ≡ 180000000 - (t + 1) = omega arith in
        let s = quarter_step (180000000 - (t + 1)) (omega arith) in
        rw (e, e1) (omega arith)

pub half_top : (t : ℕ) → half_sine t ≤ 1000000000
unfolding half_sine
half_top t = quarter_top (min t (180000000 - t)) (omega arith)

pub half_mirror : (t : ℕ) → t ≤ 180000000 → half_sine (180000000 - t) ≡ half_sine t
unfolding half_sine
half_mirror t h = let e : min (180000000 - t) (180000000 - (180000000 - t)) ≡ min t (180000000 - t) = omega arith in rw e

pub half_zero : half_sine 0 ≡ 0
unfolding half_sine quarter_sine entry plus_terms minus_terms term part whole factorial
half_zero = refl

-- past the half turn `half_sine` is 0
pub half_past : (n : ℕ) → 180000000 ≤ n → half_sine n ≡ 0
unfolding half_sine
half_past n h = let e : min n (180000000 - n) ≡ min 0 (180000000 - 0) = omega arith in rw e half_zero

-- ---- the table's step around an angle, by the entry before it
pub rise_last : (t k : ℕ) → folded t / 100000 ≡ k → k ≡ 900 → rise_of t ≡ 0
unfolding rise_of
rise_last t k e h = rw (eq-eqb (folded t / 100000) 900 (e ∙ h))

pub rise_from : (t k : ℕ) → folded t / 100000 ≡ k → (k ≡ 900 → ⊥) → rise_of t ≡ entry (k + 1) - entry k
unfolding rise_of
rise_from t k e n = rw (ne_eqb (folded t / 100000) 900 (λ h. n (sym e ∙ h))) (ap (λ (j : ℕ). entry (j + 1) - entry j) e)

pub rise_small : (t : ℕ) → rise_of t ≤ 1745328
rise_small t = go (dec_lt (folded t / 100000) 900)
  where
    go : Dec (folded t / 100000 < 900) → rise_of t ≤ 1745328
    go (yes l) =
        let n = neighbours (folded t / 100000) l in
        rw (rise_from t (folded t / 100000) refl (λ e. omega arith)) (omega arith)
    go (no l) = rw (rise_last t (folded t / 100000) refl (omega arith)) (omega arith)
