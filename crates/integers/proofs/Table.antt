-- A test that is computed over a whole list, or over every number below one, says its fact at each entry.
-- By recursion on the list or on the number; the test itself is computed once, where the law is cited with `tt`.
use mathlib.Core.Path.{◌≡◌, refl, ◌∙◌, ap, subst, sym}
use mathlib.Core.Bool.{Bool, true, false, ◌&&◌, ◌||◌}
use mathlib.Core.List.{List, [], ◌∷◌}
use mathlib.Core.Logic.{◌⊎◌, inl, inr}
use Prim.Native.Nat.{ℕ, zero, suc, ◌+◌, ◌<◌, zero-le}
use native.Mathlib.Nat.{add-zero, zero-add, add-suc, suc-add, le_of_suc-le-suc, not-suc-le-zero}
use native.Mathlib.Omega.{arith}
use lib.Dec.{T, leb, leb→le}
use lib.IntN.{ℤ, pos, nat_abs}
use lib.ListN.{length, get_or}
use mir.Facts.{and_yes}
use Rattle.integers.specs.Range.{Within}

pub yes : (b : Bool) → T b → b ≡ true
yes true t = refl
yes false t = absurd t

pub no : (b : Bool) → (T b → ⊥) → b ≡ false
no true n = absurd (n tt)
no false n = refl

-- no test has both outcomes
pub differ : false ≡ true → ⊥
differ e = subst T (sym e) tt

-- either of two tests
pub or_left : (a b : Bool) → T a → T (a || b)
or_left true b t = tt
or_left false b t = absurd t

pub or_right : (a b : Bool) → T b → T (a || b)
or_right true b t = tt
or_right false b t = t

-- ---- the test f passes at each entry of the list and its index, counted from i
abbrev pub every : (ℕ → ℕ → Bool) → ℕ → List ℕ → Bool
every f i [] = true
every f i (x ∷ xs) = f i x && every f (suc i) xs

from : (f : ℕ → ℕ → Bool) (xs : List ℕ) (i : ℕ) → T (every f i xs) → (k : ℕ) → k < length xs → T (f (i + k) (get_or xs k 0))
from f [] i t k h = absurd (not-suc-le-zero h)
from f (x ∷ xs) i t zero h = subst (λ (m : ℕ). T (f m x)) (sym (add-zero i)) (and_yes (f i x) (every f (suc i) xs) t).0
from f (x ∷ xs) i t (suc k) h =
    subst (λ (m : ℕ). T (f m (get_or xs k 0))) (suc-add i k ∙ sym (add-suc i k))
    (from f xs (suc i) (and_yes (f i x) (every f (suc i) xs) t).1 k (le_of_suc-le-suc h))

pub at_entry : (f : ℕ → ℕ → Bool) (xs : List ℕ) → T (every f 0 xs) → (k : ℕ) → k < length xs → T (f k (get_or xs k 0))
at_entry f xs t k h = subst (λ (m : ℕ). T (f m (get_or xs k 0))) (zero-add k) (from f xs 0 t k h)

-- ---- the test f passes at each number below n
unfoldable pub below : (ℕ → Bool) → ℕ → Bool
below f zero = true
below f (suc n) = f n && below f n

pub le_split : (k n : ℕ) → k < suc n → (k ≡ n) ⊎ (k < n)
le_split zero zero h = inl refl
le_split zero (suc n) h = inr (omega arith)
le_split (suc k) zero h = absurd (omega arith)
le_split (suc k) (suc n) h = elim (le_split k n (omega arith)) [ inl e ↦ inl (ap suc e) | inr l ↦ inr (omega arith) ]

pub from_below : (f : ℕ → Bool) (n : ℕ) → T (below f n) → (k : ℕ) → k < n → T (f k)
unfolding below
from_below f zero t k h = absurd (omega arith)
from_below f (suc n) t k h =
    elim (le_split k n h) [
      | inl e ↦ subst (λ (m : ℕ). T (f m)) (sym e) (and_yes (f n) (below f n) t).0
      | inr l ↦ from_below f n (and_yes (f n) (below f n) t).1 k l
    ]

-- ---- a bound on each entry of a table of signed numbers, and of a table of rows of them
abbrev pub all_within : ℕ → List ℤ → Bool
all_within n [] = true
all_within n (z ∷ zs) = leb (nat_abs z) n && all_within n zs

pub all_within_lem : (n : ℕ) (zs : List ℤ) → T (all_within n zs) → (i : ℕ) → Within n (get_or zs i (pos 0))
all_within_lem n [] t i = record { within = zero-le }
all_within_lem n (z ∷ zs) t zero = record { within = leb→le (nat_abs z) n (and_yes (leb (nat_abs z) n) (all_within n zs) t).0 }
all_within_lem n (z ∷ zs) t (suc i) = all_within_lem n zs (and_yes (leb (nat_abs z) n) (all_within n zs) t).1 i

-- ---- the test f passes at each of a list of rows
abbrev pub every_row : (List ℤ → Bool) → List (List ℤ) → Bool
every_row f [] = true
every_row f (r ∷ rs) = f r && every_row f rs

pub at_row : (f : List ℤ → Bool) (rs : List (List ℤ)) → T (every_row f rs) → (k : ℕ) → k < length rs → T (f (get_or rs k []))
at_row f [] t k h = absurd (not-suc-le-zero h)
at_row f (r ∷ rs) t zero h = (and_yes (f r) (every_row f rs) t).0
at_row f (r ∷ rs) t (suc k) h = at_row f rs (and_yes (f r) (every_row f rs) t).1 k (le_of_suc-le-suc h)
