-- A scan of digits, one byte at a time: what is left to read from byte i on is what the whole text is, and the number stays small.
-- Each step takes one byte off what is left; ten digits stand for less than 10^10.
use mathlib.Core.Bool.{Bool, true, false, ◌&&◌}
use mathlib.Core.List.{List, [], ◌∷◌}
use mathlib.Core.Path.{◌≡◌, refl, sym, ap, subst, ◌∙◌}
use Prim.Native.Nat.{ℕ, suc, ◌+◌, ◌-◌, ◌*◌, ◌^◌, ◌≤◌, ◌<◌}
use native.Mathlib.Nat.{pow-suc, pow-le-pow_right, add-suc, add-zero, suc-add}
use native.Mathlib.Numerals.{add-one}
use native.Mathlib.Omega.{arith}
use lib.Dec.{T, leb}
use lib.ListN.{length, drop, get_or, drop_of_length-le}
use lib.Seq.{drop-cons}
use borrow.Author.Tests.{leb-true, le-leb, lt-leb}
use Rattle.std.specs.Prelude.{Some, None}
use Rattle.listing_lines.specs.Request.{is_digit, digits_if, digit_of, digits_after, digits_of}

-- both halves of the test
pub digit_in : (b : ℕ) → is_digit b ≡ true → (48 ≤ b) × (b ≤ 57)
digit_in b e = go (leb 48 b) (leb b 57) (leb-true 48 b) (leb-true b 57) e
  where
    go : (p q : Bool) → (p ≡ true → 48 ≤ b) → (q ≡ true → b ≤ 57) → p && q ≡ true → (48 ≤ b) × (b ≤ 57)
    go true q f g h = (f refl, g h)
    go false q f g h = absurd (subst T (sym h) tt)

-- ---- one byte of the scan
module _ (l : List ℕ) (n i : ℕ) where
  pub at_end : length l ≤ i → digits_after n (drop i l) ≡ Some n
  unfolding digits_after
  at_end h = ap (digits_after n) (drop_of_length-le l h)

  module _ (h : i < length l) where
    step : digits_after n (drop i l) ≡ digits_if (is_digit (get_or l i 0)) (digits_after (n * 10 + (get_or l i 0 - 48)) (drop (i + 1) l))
    unfolding digits_after
    step = ap (digits_after n) (drop-cons l i 0 h ∙ ap (λ (k : ℕ). get_or l i 0 ∷ drop k l) (sym (add-one i)))

    pub at_other : digit_of (get_or l i 0) ≡ None → digits_after n (drop i l) ≡ None
    at_other e = step ∙ go (is_digit (get_or l i 0)) e
      where
        go : (t : Bool) → digits_if t (Some (get_or l i 0 - 48)) ≡ None → digits_if t (digits_after (n * 10 + (get_or l i 0 - 48)) (drop (i + 1) l)) ≡ None
        go true f = let z : ◌≡◌ {A = ℕ} 0 1 = cc in absurd (omega arith)
        go false f = refl

    pub at_digit : (d : ℕ) → digit_of (get_or l i 0) ≡ Some d → digits_after n (drop i l) ≡ digits_after (n * 10 + d) (drop (i + 1) l)
    at_digit d e = step ∙ go (is_digit (get_or l i 0)) e
      where
        go : (t : Bool) → digits_if t (Some (get_or l i 0 - 48)) ≡ Some d → digits_if t (digits_after (n * 10 + (get_or l i 0 - 48)) (drop (i + 1) l)) ≡ digits_after (n * 10 + d) (drop (i + 1) l)
        go true f = let same : get_or l i 0 - 48 ≡ d = cc in ap (λ (k : ℕ). digits_after (n * 10 + k) (drop (i + 1) l)) same
        go false f = let z : ◌≡◌ {A = ℕ} 0 1 = cc in absurd (omega arith)

-- a digit is below ten
pub digit_small : (b d : ℕ) → digit_of b ≡ Some d → d ≤ 9
digit_small b d e = go (is_digit b) refl e
  where
    go : (t : Bool) → is_digit b ≡ t → digits_if t (Some (b - 48)) ≡ Some d → d ≤ 9
    go true a f = let same : b - 48 ≡ d = cc in omega (arith, digit_in b a)
    go false a f = let z : ◌≡◌ {A = ℕ} 0 1 = cc in absurd (omega arith)

-- ---- how many digits there are
pub none : (l : List ℕ) → length l < 1 → digits_of l ≡ None
unfolding digits_of
none l h = ap (λ (t : Bool). digits_if (t && leb (length l) 10) (digits_after 0 l)) (lt-leb 1 (length l) h)

pub too_many : (l : List ℕ) → 1 ≤ length l → 10 < length l → digits_of l ≡ None
unfolding digits_of
too_many l h g = λ i. digits_if (le-leb 1 (length l) h i && lt-leb (length l) 10 g i) (digits_after 0 l)

pub some : (l : List ℕ) → 1 ≤ length l → length l ≤ 10 → digits_of l ≡ digits_after 0 l
unfolding digits_of
some l h g = λ i. digits_if (le-leb 1 (length l) h i && le-leb (length l) 10 g i) (digits_after 0 l)

-- ---- the number stays small
pub next_small : (n d i : ℕ) → n < 10 ^ i → d ≤ 9 → n * 10 + d < 10 ^ (i + 1)
next_small n d i h l = rw (add-one, pow-suc) (omega arith)

pub ten_small : (n i : ℕ) → n < 10 ^ i → i ≤ 10 → n ≤ 9999999999
ten_small n i h l = let p : 10 ^ i ≤ 10 ^ 10 = pow-le-pow_right (omega arith) l in omega arith

after_small : (l : List ℕ) (v k n : ℕ) → v < 10 ^ k → digits_after v l ≡ Some n → n < 10 ^ (k + length l)
unfolding digits_after
after_small [] v k n h e = let same : v ≡ n = cc in rw (add-zero, ← same) h
after_small (b ∷ l) v k n h e =
    go (is_digit b) refl e (λ (s : v * 10 + (b - 48) < 10 ^ suc k) (d : digits_after (v * 10 + (b - 48)) l ≡ Some n). after_small l (v * 10 + (b - 48)) (suc k) n s d)
  where
    go : (t : Bool) → is_digit b ≡ t → digits_if t (digits_after (v * 10 + (b - 48)) l) ≡ Some n → (v * 10 + (b - 48) < 10 ^ suc k → digits_after (v * 10 + (b - 48)) l ≡ Some n → n < 10 ^ (suc k + length l)) → n < 10 ^ (k + suc (length l))
    go true a d f = let small : b - 48 ≤ 9 = omega (arith, digit_in b a) in rw (add-suc, ← suc-add) (f (subst (λ (e : ℕ). v * 10 + (b - 48) < 10 ^ e) (add-one k) (next_small v (b - 48) k h small)) d)
    go false a d f = let z : ◌≡◌ {A = ℕ} 0 1 = cc in absurd (omega arith)

-- what one to ten digits stand for
pub digits_small : (l : List ℕ) (n : ℕ) → digits_of l ≡ Some n → n ≤ 9999999999
unfolding digits_of
digits_small l n e = go (leb 1 (length l)) (leb (length l) 10) (leb-true (length l) 10) e
  where
    go : (p q : Bool) → (q ≡ true → length l ≤ 10) → digits_if (p && q) (digits_after 0 l) ≡ Some n → n ≤ 9999999999
    go true true f d = ten_small n (0 + length l) (after_small l 0 0 n (omega arith) d) (omega (arith, f refl))
    go true false f d = let z : ◌≡◌ {A = ℕ} 0 1 = cc in absurd (omega arith)
    go false q f d = let z : ◌≡◌ {A = ℕ} 0 1 = cc in absurd (omega arith)
