-- The squares of the sine and the cosine of any angle add up to nearly 10^18: at least 767,000,000,000 below and at most 1,300,000,000 above.
-- Between two entries the point (sin, cos) lies on a chord from P to Q, where |P + λ(Q - P)|² = (1-λ)|P|² + λ|Q|² - λ(1-λ)|Q - P|²;
-- the floors take less than 1 from each. Any angle folds to the first quarter.
use mathlib.Core.Path.{◌≡◌, sym, ap, subst₂, ◌∙◌}
use Prim.Native.Nat.{ℕ, ◌+◌, ◌-◌, ◌*◌, ◌/◌, ◌%◌, ◌≤◌, ◌<◌, min}
use native.Mathlib.Omega.{arith}
use native.Mathlib.Nat.{mul-le-mul, mul-le-mul_left, mul-zero}
use native.Mathlib.Decide.{dec_lt}
use lib.IntN.{ℤ, pos, nat_abs, ◌+ℤ◌}
use Rattle.integers.proofs.Ring.{abs_neg}
use Rattle.integers.proofs.Squares.{square_mono, mean}
use Rattle.angles.specs.Entry.{entry}
use Rattle.angles.specs.Sine.{between, quarter_sine, half_sine, sine_of, cosine_of}
use Rattle.angles.proofs.Facts.{Near, neighbours, Circle, circles}
use Rattle.angles.proofs.Steps.{at_most}
use Rattle.angles.proofs.Turns.{turn, turn_below, turn_add}
use Rattle.angles.proofs.Laws.{turn_sine, turn_sine_left, turn_sine_right, sine_is}

-- what is shown of s, the size of a sine, and c, the size of the cosine: the point (s, c) lies nearly on the circle of radius 10^9
pub record NearCircle (s c : ℕ) : Type 0 where
  pub low : 999999233000000000 ≤ s * s + c * c
  pub high : s * s + c * c ≤ 1000000001300000000

-- ---- one coordinate of a point on a chord from a to a + p, w and r parts of the way from its ends
chord : (a p w r : ℕ) → (a * w + (a + p) * r) * (a * w + (a + p) * r) + w * r * (p * p) ≡ (w + r) * (w * (a * a) + r * ((a + p) * (a + p)))
chord a p w r = omega arith

-- its floor, in hundred-thousandths
record Floored (s x : ℕ) : Type 0 where
  pub low : s * 100000 ≤ x
  pub high : x < (s + 1) * 100000

floored : (a p w r : ℕ) → w + r ≡ 100000 → Floored (a + p * r / 100000) (a * w + (a + p) * r)
floored a p w r e = let f = ap (λ (n : ℕ). a * n) e in record { low = omega arith; high = omega arith }

-- the squares of a floor
record Squared (s x : ℕ) : Type 0 where
  pub low : s * s * 10000000000 ≤ x * x
  pub high : x * x ≤ (s + 1) * (s + 1) * 10000000000

squared : (s x : ℕ) → Floored s x → Squared s x
squared s x f =
    let l = mul-le-mul f.low f.low in
    let h = square_mono x ((s + 1) * 100000) (omega (arith, f.high)) in
    record { low = omega arith; high = omega arith }

-- w r is at most a quarter of the square of w + r
quarter : (w r : ℕ) → w + r ≡ 100000 → w * r ≤ 2500000000
quarter w r e =
    let m = mean w r in
    let s = ap (λ (n : ℕ). n * n) e in
    omega arith

-- ---- the point itself: the sine goes from a to a + p, the cosine from d + q back to d
module _ (a p d q w r : ℕ) (e : w + r ≡ 100000) where
  abbrev X : ℕ
  X = a * w + (a + p) * r

  abbrev Y : ℕ
  Y = d * r + (d + q) * w

  abbrev P : ℕ
  P = a * a + (d + q) * (d + q)

  abbrev Q : ℕ
  Q = (a + p) * (a + p) + d * d

  point : X * X + Y * Y + w * r * (p * p + q * q) ≡ 100000 * (w * P + r * Q)
  point =
      let f = chord a p w r in
      let g = chord d q r w in
      let h = ap (λ (n : ℕ). n * (w * P + r * Q)) e in
      omega arith

  most : (n : ℕ) → P ≤ n → Q ≤ n → X * X + Y * Y ≤ 10000000000 * n
  most n hp hq =
      let f = mul-le-mul_left w hp in
      let g = mul-le-mul_left r hq in
      let h = ap (λ (k : ℕ). k * n) e in
      let i = point in
      omega arith

  least : (n m : ℕ) → n ≤ P → n ≤ Q → p * p + q * q ≤ m → 10000000000 * n ≤ X * X + Y * Y + 2500000000 * m
  least n m hp hq hm =
      let f = mul-le-mul_left w hp in
      let g = mul-le-mul_left r hq in
      let h = ap (λ (k : ℕ). k * n) e in
      let i = point in
      let j = mul-le-mul (quarter w r e) hm in
      omega arith

  unit : Circle a (a + p) (d + q) d → 999999998692509698 ≤ Q → Q ≤ 1000000001271150589 → p * p + q * q ≤ 3046176984852 → a + p * r / 100000 ≤ 1000000000 → d + q * w / 100000 ≤ 1000000000 → NearCircle (a + p * r / 100000) (d + q * w / 100000)
  unit ends ql qh ch sl cl =
      let s : ℕ = a + p * r / 100000 in
      let c : ℕ = d + q * w / 100000 in
      let x = squared (a + p * r / 100000) X (floored a p w r e) in
      let y = squared (d + q * w / 100000) Y (floored d q r w (omega arith)) in
      let u = most 1000000001271150589 ends.high qh in
      let v = least 999999998692509698 3046176984852 ends.low ql ch in
      bounds s c sl cl (X * X) (Y * Y) x.low x.high y.low y.high u v
    where
      bounds : (s c : ℕ) → s ≤ 1000000000 → c ≤ 1000000000 → (x y : ℕ) → s * s * 10000000000 ≤ x → x ≤ (s + 1) * (s + 1) * 10000000000 → c * c * 10000000000 ≤ y → y ≤ (c + 1) * (c + 1) * 10000000000 → x + y ≤ 10000000000 * 1000000001271150589 → 10000000000 * 999999998692509698 ≤ x + y + 2500000000 * 3046176984852 → NearCircle s c
      bounds s c sl cl x y xl xh yl yh u v = record { low = omega arith; high = omega arith }

-- ---- an angle in the first quarter, and the rest of the quarter
abbrev Quartered : ℕ → Type 0
Quartered t = NearCircle (quarter_sine t) (quarter_sine (90000000 - t))

-- on an entry
on_entry : (k : ℕ) → k ≤ 900 → NearCircle (entry k) (entry (900 - k))
on_entry k h = let e = circles k h in record { low = omega (arith, e.low); high = omega (arith, e.high) }

-- r past entry k, with w left to the next
off_entry : (k r w : ℕ) → k < 900 → w + r ≡ 100000 → NearCircle (between (entry k) (entry (k + 1)) r) (between (entry (899 - k)) (entry (900 - k)) w)
off_entry k r w h e =
    let f : 899 - k + 1 ≡ 900 - k = omega arith in
    let g : 900 - (k + 1) ≡ 899 - k = omega arith in
    let n = neighbours k h in
    let m = rw f at (neighbours (899 - k) (omega arith)) in
    let c = circles k (omega arith) in
    let z = rw g at (circles (k + 1) (omega arith)) in
    go (entry k) (entry (k + 1)) (entry (900 - k)) (entry (899 - k)) n m c z.low z.high
  where
    go : (a b c d : ℕ) → Near a b → Near d c → Circle a b c d → 999999998692509698 ≤ b * b + d * d → b * b + d * d ≤ 1000000001271150589 → NearCircle (between a b r) (between d c w)
    go a b c d n m z ql qh =
        let eb : a + (b - a) ≡ b = omega (arith, n.rises) in
        let ec : d + (c - d) ≡ c = omega (arith, m.rises) in
        let s = at_most a b r (omega arith) n in
        let t = at_most d c w (omega arith) m in
        unit a (b - a) d (c - d) w r e (rw (eb, ec) z) (rw eb ql) (rw eb qh) z.chord (omega (arith, n.top)) (omega (arith, m.top))

quartered : (t : ℕ) → t ≤ 90000000 → Quartered t
unfolding quarter_sine
quartered t h = go (dec_lt 0 (t % 100000))
  where
    whole : (k x : ℕ) → between (entry k) x 0 ≡ entry k
    whole k x = rw (mul-zero (x - entry k)) (omega arith)

    go : Dec (0 < t % 100000) → Quartered t
    go (yes l) =
        let ek : (90000000 - t) / 100000 ≡ 899 - t / 100000 = omega arith in
        let er : (90000000 - t) % 100000 ≡ 100000 - t % 100000 = omega arith in
        let f : 899 - t / 100000 + 1 ≡ 900 - t / 100000 = omega arith in
        rw (ek, er, f) (off_entry (t / 100000) (t % 100000) (100000 - t % 100000) (omega arith) (omega arith))
    go (no l) =
        let er : t % 100000 ≡ 0 = omega arith in
        let ek : (90000000 - t) / 100000 ≡ 900 - t / 100000 = omega arith in
        let eq : (90000000 - t) % 100000 ≡ 0 = omega arith in
        rw (er, ek, eq, whole (t / 100000) (entry (t / 100000 + 1)), whole (900 - t / 100000) (entry (900 - t / 100000 + 1))) (on_entry (t / 100000) (omega arith))

-- ---- any angle
abbrev fold : ℕ → ℕ
fold s = min (s % 180000000) (180000000 - s % 180000000)

-- folded once its rest of a half turn is known
fold_by : (s x : ℕ) → s % 180000000 ≡ x → min x (180000000 - x) ≡ fold s
fold_by s x e = rw e

sized : (s : ℕ) → s < 360000000 → nat_abs (turn_sine s) ≡ quarter_sine (fold s)
unfolding half_sine
sized s h = go (dec_lt 180000000 s) (dec_lt s 180000000)
  where
    go : Dec (180000000 < s) → Dec (s < 180000000) → nat_abs (turn_sine s) ≡ quarter_sine (fold s)
    go (yes l) m = ap nat_abs (turn_sine_right s l) ∙ abs_neg (pos (half_sine (s - 180000000))) ∙ ap quarter_sine (fold_by s (s - 180000000) (omega arith))
    go (no l) (yes m) = ap nat_abs (turn_sine_left s (omega arith)) ∙ ap quarter_sine (fold_by s s (omega arith))
    go (no l) (no m) =
        let e : s ≡ 180000000 = omega arith in
        rw e (ap nat_abs (turn_sine_left 180000000 (omega arith)))

-- a quarter turn on, the fold is the rest of the quarter
fold_on : (u : ℕ) → u < 360000000 → fold ((u + 90000000) % 360000000) ≡ 90000000 - fold u
fold_on u h = go (dec_lt u 90000000) (dec_lt u 180000000) (dec_lt u 270000000)
  where
    low : (x : ℕ) → x ≤ 90000000 → min x (180000000 - x) ≡ x
    low x l = omega arith

    high : (x : ℕ) → 90000000 ≤ x → min x (180000000 - x) ≡ 180000000 - x
    high x l = omega arith

    by : (x y m n : ℕ) → u % 180000000 ≡ x → (u + 90000000) % 360000000 % 180000000 ≡ y → min x (180000000 - x) ≡ m → min y (180000000 - y) ≡ n → n ≡ 90000000 - m → fold ((u + 90000000) % 360000000) ≡ 90000000 - fold u
    by x y m n e f g i j = rw (e, f, g, i) j

    go : Dec (u < 90000000) → Dec (u < 180000000) → Dec (u < 270000000) → fold ((u + 90000000) % 360000000) ≡ 90000000 - fold u
    go (yes a) b c = by u (u + 90000000) u (180000000 - (u + 90000000)) (omega arith) (omega arith) (low u (omega arith)) (high (u + 90000000) (omega arith)) (omega arith)
    go (no a) (yes b) c = by u (u - 90000000) (180000000 - u) (u - 90000000) (omega arith) (omega arith) (high u (omega arith)) (low (u - 90000000) (omega arith)) (omega arith)
    go (no a) (no b) (yes c) = by (u - 180000000) (u - 90000000) (u - 180000000) (180000000 - (u - 90000000)) (omega arith) (omega arith) (low (u - 180000000) (omega arith)) (high (u - 90000000) (omega arith)) (omega arith)
    go (no a) (no b) (no c) = by (u - 180000000) (u - 270000000) (180000000 - (u - 180000000)) (u - 270000000) (omega arith) (omega arith) (high (u - 180000000) (omega arith)) (low (u - 270000000) (omega arith)) (omega arith)

pub squares : (t : ℤ) → NearCircle (nat_abs (sine_of t)) (nat_abs (cosine_of t))
unfolding cosine_of
squares t =
    let b = turn_below t in
    let s : nat_abs (sine_of t) ≡ quarter_sine (fold (turn t)) = ap nat_abs (sine_is t) ∙ sized (turn t) b in
    let c : nat_abs (cosine_of t) ≡ quarter_sine (90000000 - fold (turn t)) =
    ap nat_abs (sine_is (t +ℤ pos 90000000) ∙ ap turn_sine (turn_add t 90000000)) ∙ sized ((turn t + 90000000) % 360000000) (omega arith) ∙ ap quarter_sine (fold_on (turn t) b) in
    subst₂ NearCircle (sym s) (sym c) (quartered (fold (turn t)) (omega arith))
