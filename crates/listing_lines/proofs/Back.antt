-- What is printed of a number of at most ten digits reads back as that number.
-- A digit behind others multiplies by ten and adds; the printed digits are those of the tenth and the last.
use mathlib.Core.Bool.{Bool, true, false, ◌&&◌}
use mathlib.Core.List.{List, [], ◌∷◌, ◌++◌}
use mathlib.Core.Path.{◌≡◌, refl, ap, ◌∙◌}
use Prim.Native.Nat.{ℕ, zero, suc, ◌+◌, ◌-◌, ◌*◌, ◌/◌, ◌%◌, ◌≤◌, ◌<◌}
use native.Mathlib.Nat.{div-add-mod', mod-lt}
use native.Mathlib.Omega.{arith}
use lib.Dec.{leb, ltb}
use lib.IntN.{ℤ, pos, negsuc, nat_abs}
use lib.ListN.{length, get_or}
use borrow.Author.Tests.{le-leb, ltb-true, ltb-false}
use Rattle.std.specs.Prelude.{Some}
use Rattle.listing_lines.specs.Request.{is_digit, digits_if, digits_after, digits_of, with_sign, whole_of}
use Rattle.listing_lines.specs.Decimal.{decimal_of, signed_of}
use Rattle.listing_lines.proofs.Scan.{digit_in, some}
use Rattle.listing_lines.proofs.Fields.{with_sign_first, no_sign_first}
use Rattle.listing_lines.proofs.Decimals.{one_digit, more_digits, more_length, digits_at_most, tenth_less}

is_digit_lem : (d : ℕ) → d ≤ 9 → is_digit (48 + d) ≡ true
is_digit_lem d h = go (le-leb 48 (48 + d) (omega arith)) (le-leb (48 + d) 57 (omega arith))
  where
    go : leb 48 (48 + d) ≡ true → leb (48 + d) 57 ≡ true → is_digit (48 + d) ≡ true
    go e f = λ i. e i && f i

-- one digit behind others
behind : (l : List ℕ) (v w d : ℕ) → d ≤ 9 → digits_after v l ≡ Some w → digits_after v (l ++ ((48 + d) ∷ [])) ≡ Some (w * 10 + d)
unfolding digits_after
behind [] v w d h e =
    let same : v ≡ w = cc in
    let digit : 48 + d - 48 ≡ d = omega arith in
    (λ i. digits_if (is_digit_lem d h i) (Some (same i * 10 + digit i)))
behind (b ∷ l) v w d h e = go (is_digit b) (λ (f : digits_after (v * 10 + (b - 48)) l ≡ Some w). behind l (v * 10 + (b - 48)) w d h f) e
  where
    go : (t : Bool) → (digits_after (v * 10 + (b - 48)) l ≡ Some w → digits_after (v * 10 + (b - 48)) (l ++ ((48 + d) ∷ [])) ≡ Some (w * 10 + d)) → digits_if t (digits_after (v * 10 + (b - 48)) l) ≡ Some w → digits_if t (digits_after (v * 10 + (b - 48)) (l ++ ((48 + d) ∷ []))) ≡ Some (w * 10 + d)
    go true f g = f g
    go false f g = let z : ◌≡◌ {A = ℕ} 0 1 = cc in absurd (omega arith)

nothing : digits_after 0 [] ≡ Some 0
unfolding digits_after
nothing = refl

one_back : (n : ℕ) → n < 10 → digits_after 0 (decimal_of n) ≡ Some n
one_back n h = ap (digits_after 0) (one_digit n h) ∙ behind [] 0 0 n (omega arith) nothing ∙ ap Some (omega arith)

digits_back : (k n : ℕ) → n ≤ k → digits_after 0 (decimal_of n) ≡ Some n
digits_back zero n h = one_back n (omega arith)
digits_back (suc k) n h = go (ltb n 10) refl (λ (f : n / 10 ≤ k). digits_back k (n / 10) f)
  where
    go : (t : Bool) → ltb n 10 ≡ t → (n / 10 ≤ k → digits_after 0 (decimal_of (n / 10)) ≡ Some (n / 10)) → digits_after 0 (decimal_of n) ≡ Some n
    go true e f = one_back n (ltb-true n 10 e)
    go false e f =
        let large : 10 ≤ n = ltb-false n 10 e in
        let last : n % 10 < 10 = mod-lt n (omega arith) in
        ap (digits_after 0) (more_digits n large) ∙ behind (decimal_of (n / 10)) 0 (n / 10) (n % 10) (omega arith) (f (omega (arith, tenth_less n large))) ∙ ap Some (div-add-mod' n 10)

-- ---- one digit at least, and the first byte is a digit's
some_digit : (n : ℕ) → 1 ≤ length (decimal_of n)
some_digit n = go (ltb n 10) refl
  where
    go : (t : Bool) → ltb n 10 ≡ t → 1 ≤ length (decimal_of n)
    go true e = omega (arith, ap length (one_digit n (ltb-true n 10 e)))
    go false e = omega (arith, more_length n (ltb-false n 10 e))

no_minus : (l : List ℕ) (v w : ℕ) → 1 ≤ length l → digits_after v l ≡ Some w → get_or l 0 0 ≡ 45 → ⊥
unfolding digits_after
no_minus [] v w h e f = absurd (omega arith)
no_minus (b ∷ l) v w h e f = go (is_digit b) refl e
  where
    go : (t : Bool) → is_digit b ≡ t → digits_if t (digits_after (v * 10 + (b - 48)) l) ≡ Some w → ⊥
    go true a g = omega (arith, digit_in b a, f)
    go false a g = let z : ◌≡◌ {A = ℕ} 0 1 = cc in omega arith

ten_digits : (n : ℕ) → n ≤ 9999999999 → digits_of (decimal_of n) ≡ Some n
ten_digits n h = some (decimal_of n) (some_digit n) (digits_at_most 9 n (omega arith)) ∙ digits_back n n (omega arith)

-- ---- with its sign
pub number_back : (z : ℤ) → nat_abs z ≤ 9999999999 → whole_of (signed_of z) ≡ Some z
number_back (pos n) h =
    no_sign_first (decimal_of n) (no_minus (decimal_of n) 0 n (some_digit n) (digits_back n n (omega arith)))
    ∙ ap (with_sign false) (ten_digits n h)
number_back (negsuc n) h = with_sign_first (45 ∷ decimal_of (suc n)) refl ∙ ap (with_sign true) (ten_digits (suc n) h)
