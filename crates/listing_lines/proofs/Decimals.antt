-- The decimal digits of a number: those of its tenth and then its last, and at most k + 1 of them where it is below 10^(k + 1).
-- The number that bounds the recursion plays no part, so long as it is not below the number itself.
use mathlib.Core.Bool.{Bool, true, false}
use mathlib.Core.List.{List, [], ◌∷◌, ◌++◌}
use mathlib.Core.Path.{◌≡◌, refl, ap, ◌∙◌}
use Prim.Native.Nat.{ℕ, zero, suc, ◌+◌, ◌*◌, ◌/◌, ◌%◌, ◌^◌, ◌≤◌, ◌<◌}
use native.Mathlib.Nat.{div-add-mod', div-lt_iff_lt-mul, le_refl, pow-suc}
use native.Mathlib.Omega.{arith}
use lib.Dec.{ltb}
use lib.ListN.{length, length-append}
use borrow.Author.Tests.{ltb-true, ltb-false, lt-ltb, le-ltb}
use Rattle.listing_lines.specs.Decimal.{decimal_from, decimal_of}

tenth : (n k : ℕ) → 10 ≤ n → n ≤ suc k → n / 10 ≤ k
tenth n k h l = omega (arith, div-add-mod' n 10)

enough : (k j n : ℕ) (t : Bool) → n ≤ k → n ≤ j → ltb n 10 ≡ t → decimal_from k t n ≡ decimal_from j t n
unfolding decimal_from
enough zero zero n t h g e = refl
enough zero (suc j) n true h g e = refl
enough zero (suc j) n false h g e = absurd (omega (arith, ltb-false n 10 e))
enough (suc k) zero n true h g e = refl
enough (suc k) zero n false h g e = absurd (omega (arith, ltb-false n 10 e))
enough (suc k) (suc j) n true h g e = refl
enough (suc k) (suc j) n false h g e =
    ap (λ (l : List ℕ). l ++ (48 + n % 10) ∷ [])
    (enough k j (n / 10) (ltb (n / 10) 10) (tenth n k (ltb-false n 10 e) h) (tenth n j (ltb-false n 10 e) g) refl)

-- below ten: one digit
pub one_digit : (n : ℕ) → n < 10 → decimal_of n ≡ (48 + n) ∷ []
unfolding decimal_of decimal_from
one_digit zero h = refl
one_digit (suc n) h = ap (λ (t : Bool). decimal_from (suc n) t (suc n)) (lt-ltb (suc n) 10 h)

-- from ten on: those of the tenth, and the last
pub more_digits : (n : ℕ) → 10 ≤ n → decimal_of n ≡ decimal_of (n / 10) ++ (48 + n % 10) ∷ []
unfolding decimal_of decimal_from
more_digits zero h = absurd (omega arith)
more_digits (suc n) h =
    ap (λ (t : Bool). decimal_from (suc n) t (suc n)) (le-ltb (suc n) 10 h)
    ∙ ap (λ (l : List ℕ). l ++ (48 + suc n % 10) ∷ []) (enough n (suc n / 10) (suc n / 10) (ltb (suc n / 10) 10) (tenth (suc n) n h (le_refl (suc n))) (le_refl (suc n / 10)) refl)

pub more_length : (n : ℕ) → 10 ≤ n → length (decimal_of n) ≡ length (decimal_of (n / 10)) + 1
more_length n h = ap length (more_digits n h) ∙ length-append (decimal_of (n / 10)) ((48 + n % 10) ∷ [])

pub tenth_less : (n : ℕ) → 10 ≤ n → n / 10 < n
tenth_less n h = omega (arith, div-add-mod' n 10)

-- how many there are
pub digits_at_most : (k n : ℕ) → n < 10 ^ suc k → length (decimal_of n) ≤ suc k
digits_at_most zero n h = let small : n < 10 = h in rw (one_digit n small) (omega arith)
digits_at_most (suc k) n h = go (ltb n 10) refl (λ (g : n / 10 < 10 ^ suc k). digits_at_most k (n / 10) g)
  where
    go : (t : Bool) → ltb n 10 ≡ t → (n / 10 < 10 ^ suc k → length (decimal_of (n / 10)) ≤ suc k) → length (decimal_of n) ≤ suc (suc k)
    go true e f = rw (one_digit n (ltb-true n 10 e)) (omega arith)
    go false e f =
        let wide : n < 10 ^ suc k * 10 = rw (pow-suc 10 (suc k)) at h in
        rw (more_digits n (ltb-false n 10 e), length-append) (omega (arith, f ((div-lt_iff_lt-mul (omega arith)).1 wide)))
