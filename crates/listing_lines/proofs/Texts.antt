-- Numbers as text, one behind another: those before the last with a space each, and the last with a line end.
-- By recursion on the numbers.
use mathlib.Core.List.{List, [], ◌∷◌, ◌++◌, append_assoc}
use mathlib.Core.Path.{◌≡◌, refl, sym, ap, ◌∙◌}
use Prim.Native.Nat.{ℕ, ◌+◌, ◌<◌}
use native.Mathlib.Numerals.{add-one}
use native.Mathlib.Omega.{arith}
use lib.IntN.{ℤ, pos}
use lib.ListN.{length, take, get_or}
use lib.Seq.{take-suc, take_all}
use Rattle.listing_lines.specs.Decimal.{signed_of}
use Rattle.listing_lines.specs.Line.{text_of}

-- numbers with a space behind each
unfoldable pub spaced : List ℤ → List ℕ
spaced [] = []
spaced (z ∷ l) = signed_of z ++ (32 ∷ spaced l)

spaced_last : (l : List ℤ) (z : ℤ) → spaced (l ++ (z ∷ [])) ≡ spaced l ++ (signed_of z ++ (32 ∷ []))
unfolding spaced
spaced_last [] z = refl
spaced_last (x ∷ l) z = ap (λ (t : List ℕ). signed_of x ++ (32 ∷ t)) (spaced_last l z) ∙ sym (append_assoc (signed_of x) (32 ∷ spaced l) (signed_of z ++ (32 ∷ [])))

pub spaced_more : (l : List ℤ) (i : ℕ) → i < length l → spaced (take (i + 1) l) ≡ spaced (take i l) ++ (signed_of (get_or l i (pos 0)) ++ (32 ∷ []))
spaced_more l i h = ap (λ (k : ℕ). spaced (take k l)) (add-one i) ∙ ap spaced (take-suc l i (pos 0) h) ∙ spaced_last (take i l) (get_or l i (pos 0))

text_last : (l : List ℤ) (z : ℤ) → text_of (l ++ (z ∷ [])) ≡ spaced l ++ (signed_of z ++ (10 ∷ []))
unfolding spaced text_of
text_last [] z = refl
text_last (x ∷ []) z = sym (append_assoc (signed_of x) (32 ∷ []) (signed_of z ++ (10 ∷ [])))
text_last (x ∷ y ∷ l) z =
    ap (λ (t : List ℕ). signed_of x ++ (32 ∷ t)) (text_last (y ∷ l) z) ∙ sym (append_assoc (signed_of x) (32 ∷ spaced (y ∷ l)) (signed_of z ++ (10 ∷ [])))

pub seven : (l : List ℤ) → length l ≡ 7 → text_of l ≡ spaced (take 6 l) ++ (signed_of (get_or l 6 (pos 0)) ++ (10 ∷ []))
seven l h = ap text_of (sym (take_all 7 l (omega arith)) ∙ take-suc l 6 (pos 0) (omega arith)) ∙ text_last (take 6 l) (get_or l 6 (pos 0))
