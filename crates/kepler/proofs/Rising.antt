-- Laws over any function that rises strictly from 0 to n: a bracket of two neighbours gives the nearest grid point, there is only one, and it does not fall.
-- A target nearer to the upper of two values lies above their middle; everything follows from that and from the rise.
use mathlib.Core.Path.{◌≡◌, ap}
use Prim.Native.Nat.{ℕ, zero, suc, ◌+◌, ◌-◌, ◌≤◌, ◌<◌}
use native.Mathlib.Numerals.{add-one}
use native.Mathlib.Decide.{dec_lt}
use native.Mathlib.Omega.{arith}
use Rattle.kepler.specs.Search.{Nearest}
use Rattle.integers.specs.Range.{apart}

abbrev pub Rising : (ℕ → ℕ) → ℕ → Type 0
Rising f n = (k : ℕ) → k < n → f k < f (k + 1)

-- rising by steps, hence on the whole: below b means below f b
pub rises : (f : ℕ → ℕ) (n : ℕ) → Rising f n → (b a : ℕ) → a < b → b ≤ n → f a < f b
rises f n s zero a h l = absurd (omega arith)
rises f n s (suc b) a h l = go (λ d. rises f n s b a d (omega arith)) (dec_lt a b)
  where
    go : (a < b → f a < f b) → Dec (a < b) → f a < f (suc b)
    go i (yes d) =
        let i = i d in
        let j = rw add-one at (s b (omega arith)) in
        omega arith
    go i (no d) =
        let e : a ≡ b = omega arith in
        rw e (rw add-one at (s b (omega arith)))

pub rises_le : (f : ℕ → ℕ) (n : ℕ) → Rising f n → (b a : ℕ) → a ≤ b → b ≤ n → f a ≤ f b
rises_le f n s b a h l = go (dec_lt a b)
  where
    go : Dec (a < b) → f a ≤ f b
    go (yes d) = let i = rises f n s b a d l in omega arith
    go (no d) = let e : a ≡ b = omega arith in rw e (omega arith)

-- what the search keeps: f lo <= target < f hi
pub record Bracket (f : ℕ → ℕ) (n target lo hi : ℕ) : Type 0 where
  pub order : lo < hi
  pub within : hi ≤ n
  pub low : f lo ≤ target
  pub high : target < f hi

module _ (f : ℕ → ℕ) (n : ℕ) (s : Rising f n) (target lo hi : ℕ) (b : Bracket f n target lo hi) (met : hi ≡ lo + 1) where
  -- the lower neighbour, where it is at least as near
  pub take_low : target - f lo ≤ f hi - target → Nearest f n target lo
  take_low h = record { within = omega arith; best = λ k l. (go k l (dec_lt lo k)).0; smallest = λ k l e. (go k l (dec_lt lo k)).1 e }
    where
      go : (k : ℕ) → k ≤ n → Dec (lo < k) → (apart target (f lo) ≤ apart target (f k)) × (apart target (f k) ≡ apart target (f lo) → lo ≤ k)
      go k l (yes d) = let i = rises_le f n s k hi (omega arith) l in omega arith
      go k l (no d) = go2 (dec_lt k lo)
        where
          go2 : Dec (k < lo) → (apart target (f lo) ≤ apart target (f k)) × (apart target (f k) ≡ apart target (f lo) → lo ≤ k)
          go2 (yes d2) = let i = rises f n s lo k d2 (omega arith) in omega arith
          go2 (no d2) = let e : k ≡ lo = omega arith in rw e (omega arith)

  -- the upper neighbour, where it is nearer
  pub take_high : f hi - target < target - f lo → Nearest f n target hi
  take_high h = record { within = omega arith; best = λ k l. (go k l (dec_lt k hi)).0; smallest = λ k l e. (go k l (dec_lt k hi)).1 e }
    where
      go : (k : ℕ) → k ≤ n → Dec (k < hi) → (apart target (f hi) ≤ apart target (f k)) × (apart target (f k) ≡ apart target (f hi) → hi ≤ k)
      go k l (yes d) = let i = rises_le f n s lo k (omega arith) (omega arith) in omega arith
      go k l (no d) = let i = rises_le f n s k hi (omega arith) l in omega arith

-- a target that is nearer to y than to x below it lies above the middle, and one that is not does not
above : (t x y : ℕ) → x < y → apart t y < apart t x → x + y < t + t
above t x y h a = omega arith

not_above : (u x y : ℕ) → x < y → apart u x ≤ apart u y → u + u ≤ x + y
not_above u x y h a = omega arith

-- two targets: the answer does not fall
pub monotone : (f : ℕ → ℕ) (n : ℕ) → Rising f n → (t u p q : ℕ) → t ≤ u → Nearest f n t p → Nearest f n u q → p ≤ q
monotone f n s t u p q h a b = go (dec_lt q p) (dec_lt (apart t (f p)) (apart t (f q)))
  where
    go : Dec (q < p) → Dec (apart t (f p) < apart t (f q)) → p ≤ q
    go (no d) w = omega arith
    go (yes d) (no w) = let x = a.best q b.within in a.smallest q b.within (omega arith)
    go (yes d) (yes w) =
        let r = rises f n s p q d a.within in
        let i = above t (f q) (f p) r w in
        let j = not_above u (f q) (f p) r (b.best p a.within) in
        absurd (omega arith)

-- one answer
pub only : (f : ℕ → ℕ) (n : ℕ) → Rising f n → (t p q : ℕ) → Nearest f n t p → Nearest f n t q → p ≡ q
only f n s t p q a b =
    let h = monotone f n s t t p q (omega arith) a b in
    let k = monotone f n s t t q p (omega arith) b a in
    omega arith

-- a search that goes by guesses keeps the values at both ends too
pub record Kept (f : ℕ → ℕ) (n target lo hi low high : ℕ) : Type 0 where
  pub order : lo < hi
  pub within : hi ≤ n
  pub at_low : low ≡ f lo
  pub at_high : high ≡ f hi
  pub under : low ≤ target
  pub over : target < high

pub bracket : (f : ℕ → ℕ) (n target lo hi low high : ℕ) → Kept f n target lo hi low high → Bracket f n target lo hi
bracket f n target lo hi low high k = record { order = k.order; within = k.within; low = rw k.at_low at k.under; high = rw k.at_high at k.over }

-- a grid point that is not past the upper end, and at which f is not past the target, lies below the upper end
pub short : (f : ℕ → ℕ) (x hi t : ℕ) → f x ≤ t → t < f hi → x ≤ hi → x < hi
short f x hi t a b h = go (dec_lt x hi)
  where
    go : Dec (x < hi) → x < hi
    go (yes l) = l
    go (no l) =
        let e : x ≡ hi = omega arith in
        let q : f x ≡ f hi = ap f e in
        absurd (omega arith)
