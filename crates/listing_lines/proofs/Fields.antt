-- The first space of a line, and the first byte of a number.
-- The recursion that counts the bytes before a space is that of the kit's search.
use mathlib.Core.Bool.{Bool, true, false}
use mathlib.Core.List.{List, [], ◌∷◌}
use mathlib.Core.Path.{◌≡◌, refl, sym, ap}
use Prim.Native.Nat.{ℕ, ◌+◌, ◌-◌, ◌≤◌}
use native.Mathlib.Omega.{arith}
use lib.ListN.{length, take, drop, get_or, length-drop}
use lib.Seq.{take_all}
use borrow.Author.Tests.{eq-eqb, ne_eqb, ltb-false}
use Rattle.std.specs.Prelude.{cond, Some, None, position}
use Rattle.std.specs.List.{position_or_len}
use Rattle.std.proofs.lemmas.List.Recursion.{is_position_or_len}
use lib.Dec.{eqb, ltb}
use lib.Pointwise.{pointwise}
use Rattle.std.specs.Cmp.Lexicographic.{same_text, other_text}
use Rattle.listing_lines.specs.Request.{is_space, digits_of, with_sign, number_if, whole_of, before_if, space_at}

-- ---- the first space
space_or_end : (l : List ℕ) → space_at l ≡ position_or_len is_space l
unfolding space_at
space_or_end l = is_position_or_len space_at is_space refl (λ b m. go (is_space b) (space_at m)) l
  where
    go : (t : Bool) (n : ℕ) → before_if t n ≡ cond t 0 (1 + n)
    go true n = refl
    go false n = omega arith

module _ (l : List ℕ) where
  pub at_space : (i : ℕ) → position is_space l ≡ Some i → space_at l ≡ i
  at_space i e = go (ltb (space_at l) (length l)) (rw (← space_or_end l) at e)
    where
      go : (t : Bool) → cond t (Some (space_at l)) None ≡ Some i → space_at l ≡ i
      go true f = cc
      go false f = let z : ◌≡◌ {A = ℕ} 0 1 = cc in absurd (omega arith)

  pub no_space : position is_space l ≡ None → length l ≤ space_at l
  no_space e = go (ltb (space_at l) (length l)) (ltb-false (space_at l) (length l)) (rw (← space_or_end l) at e)
    where
      go : (t : Bool) → (t ≡ false → length l ≤ space_at l) → cond t (Some (space_at l)) None ≡ None → length l ≤ space_at l
      go true g f = let z : ◌≡◌ {A = ℕ} 0 1 = cc in absurd (omega arith)
      go false g f = g refl

-- ---- all that is left from byte a on
pub to_the_end : (l : List ℕ) (a : ℕ) → take (length l - a) (drop a l) ≡ drop a l
to_the_end l a = take_all (length l - a) (drop a l) (rw length-drop (omega arith))

-- ---- a number by its first byte
pub first_minus : (l : List ℕ) → pointwise eqb (take 1 l) (45 ∷ []) ≡ true → get_or l 0 0 ≡ 45
first_minus [] e = let same = same_text [] (45 ∷ []) (sym e) in cc
first_minus (b ∷ l) e = ap (λ (x : List ℕ). get_or x 0 0) (same_text (b ∷ []) (45 ∷ []) (sym e))

pub first_other : (l : List ℕ) → pointwise eqb (take 1 l) (45 ∷ []) ≡ false → get_or l 0 0 ≡ 45 → ⊥
first_other [] e f = omega arith
first_other (b ∷ l) e f = other_text (b ∷ []) (45 ∷ []) (sym e) (ap (λ (n : ℕ). n ∷ []) f)

pub with_sign_first : (l : List ℕ) → get_or l 0 0 ≡ 45 → whole_of l ≡ with_sign true (digits_of (drop 1 l))
unfolding whole_of
with_sign_first [] e = absurd (omega arith)
with_sign_first (b ∷ l) e = ap (λ (t : Bool). number_if t (with_sign true (digits_of l)) (with_sign false (digits_of (b ∷ l)))) (eq-eqb b 45 e)

pub no_sign_first : (l : List ℕ) → (get_or l 0 0 ≡ 45 → ⊥) → whole_of l ≡ with_sign false (digits_of l)
unfolding whole_of digits_of
no_sign_first [] e = refl
no_sign_first (b ∷ l) e = ap (λ (t : Bool). number_if t (with_sign true (digits_of l)) (with_sign false (digits_of (b ∷ l)))) (ne_eqb b 45 e)
