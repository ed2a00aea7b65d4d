-- A request has at most 35 bytes, so a longer line is none, and one that is cut to 36 bytes is none either.
-- Three numbers of at most ten digits and a sign each, and a byte between two.
use mathlib.Core.Bool.{Bool, true, false, ◌&&◌}
use mathlib.Core.List.{List, [], ◌∷◌}
use mathlib.Core.Path.{◌≡◌, refl, sym, ap, ◌∙◌}
use Prim.Native.Nat.{ℕ, ◌+◌, ◌≤◌, ◌<◌}
use native.Mathlib.Omega.{arith}
use lib.Dec.{leb}
use lib.ListN.{length, take, length-drop}
use lib.Seq.{take_all, length-take-le}
use borrow.Author.Tests.{leb-true, leb-false}
use Rattle.std.specs.Prelude.{Option, Some, None, ℤ}
use Rattle.listing_lines.specs.Request.{is_minus, is_space, digits_if, digits_after, digits_of, with_sign, number_if, whole_of, before_if, space_at, field_of, rest_of, asked_of, request_of}

-- there is a number
abbrev There : {A : Type 0} → Option A → Type 0
There (Some n) = Unit {0}
There None = ⊥

digits_short : (l : List ℕ) → There (digits_of l) → length l ≤ 10
unfolding digits_of
digits_short l t = go (leb 1 (length l)) (leb (length l) 10) (leb-true (length l) 10) t
  where
    go : (p q : Bool) → (q ≡ true → length l ≤ 10) → There (digits_if (p && q) (digits_after 0 l)) → length l ≤ 10
    go true true f d = f refl
    go true false f d = absurd d
    go false q f d = absurd d

signed_given : (s : Bool) (d : Option ℕ) → There (with_sign s d) → There d
signed_given s (Some n) t = tt
signed_given s None t = absurd t

number_short : (l : List ℕ) → There (whole_of l) → length l ≤ 11
unfolding whole_of
number_short [] t = absurd t
number_short (b ∷ l) t = go (is_minus b) t
  where
    go : (m : Bool) → There (number_if m (with_sign true (digits_of l)) (with_sign false (digits_of (b ∷ l)))) → length (b ∷ l) ≤ 11
    go true d = omega (arith, digits_short l (signed_given true (digits_of l) d))
    go false d = omega (arith, digits_short (b ∷ l) (signed_given false (digits_of (b ∷ l)) d))

space_within : (l : List ℕ) → space_at l ≤ length l
unfolding space_at
space_within [] = omega arith
space_within (b ∷ l) = go (is_space b) (space_within l)
  where
    go : (t : Bool) → space_at l ≤ length l → before_if t (space_at l) ≤ length (b ∷ l)
    go true h = omega arith
    go false h = omega arith

-- a field, the byte behind it, and the rest
field_rest : (l : List ℕ) → length l ≤ length (field_of l) + 1 + length (rest_of l)
field_rest l = omega (arith, length-take-le (space_at l) l (space_within l), length-drop (space_at l + 1) l)

pub long_none : (l : List ℕ) → 35 < length l → request_of l ≡ None
unfolding request_of
long_none l h = go (whole_of (field_of l)) (whole_of (field_of (rest_of l))) (whole_of (rest_of (rest_of l))) (number_short (field_of l)) (number_short (field_of (rest_of l))) (number_short (rest_of (rest_of l)))
  where
    go : (a b c : Option ℤ) → (There a → length (field_of l) ≤ 11) → (There b → length (field_of (rest_of l)) ≤ 11) → (There c → length (rest_of (rest_of l)) ≤ 11) → asked_of a b c ≡ None
    go (Some x) (Some y) (Some z) f g k = absurd (omega (arith, f tt, g tt, k tt, field_rest l, field_rest (rest_of l)))
    go (Some x) (Some y) None f g k = refl
    go (Some x) None c f g k = refl
    go None b c f g k = refl

pub cut : (l : List ℕ) → request_of (take 36 l) ≡ request_of l
cut l = go (leb (length l) 36) (leb-true (length l) 36) (leb-false (length l) 36)
  where
    go : (t : Bool) → (t ≡ true → length l ≤ 36) → (t ≡ false → 36 < length l) → request_of (take 36 l) ≡ request_of l
    go true f g = ap request_of (take_all 36 l (f refl))
    go false f g =
        let long = g refl in
        long_none (take 36 l) (omega (arith, length-take-le 36 l (omega arith))) ∙ sym (long_none l (omega arith))
