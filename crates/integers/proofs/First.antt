-- The place that `first_picked` finds is that of the first thing picked, and 0 exactly where none is.
-- Of n things either none is picked or one is the first; the walk finds the one and the other, wherever it begins.
use mathlib.Core.Bool.{Bool, true, false, cond}
use mathlib.Core.Logic.{◌⊎◌, inl, inr}
use mathlib.Core.Path.{◌≡◌, refl, sym, ap, subst, ◌∙◌}
use Prim.Native.Nat.{ℕ, zero, suc, ◌+◌, ◌≤◌, ◌<◌}
use native.Mathlib.Omega.{arith}
use Rattle.integers.specs.First.{IsFirst, first_from, first_picked}
use Rattle.integers.proofs.Table.{le_split}

module _ (picks : ℕ → Bool) where
  -- none of the first n is picked
  abbrev pub NoneBelow : ℕ → Type 0
  NoneBelow n = (j : ℕ) → j < n → picks j ≡ false

  -- one of them is, and is the first
  pub record FirstBelow (n : ℕ) : Type 0 where
    pub at : ℕ
    pub first : IsFirst picks at
    pub below : at < n

  pub none_more : (n : ℕ) → NoneBelow n → picks n ≡ false → NoneBelow (suc n)
  none_more n h e j l = elim (le_split j n l) [ inl i ↦ subst (λ (k : ℕ). picks k ≡ false) (sym i) e | inr l ↦ h j l ]

  pub either : (n : ℕ) → NoneBelow n ⊎ FirstBelow n
  either zero = inl (λ j l. absurd (omega arith))
  either (suc n) = go (either n)
    where
      by : (b : Bool) → picks n ≡ b → NoneBelow n → NoneBelow (suc n) ⊎ FirstBelow (suc n)
      by true e h = inr (record { at = n; first = record { picked = e; none_before = h }; below = omega arith })
      by false e h = inl (none_more n h e)

      go : NoneBelow n ⊎ FirstBelow n → NoneBelow (suc n) ⊎ FirstBelow (suc n)
      go (inl h) = by (picks n) refl h
      go (inr f) = inr (record { at = f.at; first = f.first; below = omega (arith, f.below) })

  -- ---- what the walk from number k on finds
  passed : (k n : ℕ) → picks k ≡ false → first_from picks k (suc n) ≡ first_from picks (suc k) n
  unfolding first_from
  passed k n e = ap (λ (b : Bool). cond b (suc k) (first_from picks (suc k) n)) e

  met : (k n : ℕ) → picks k ≡ true → first_from picks k (suc n) ≡ suc k
  unfolding first_from
  met k n e = ap (λ (b : Bool). cond b (suc k) (first_from picks (suc k) n)) e

  none_from : (k n : ℕ) → NoneBelow (k + n) → first_from picks k n ≡ 0
  unfolding first_from
  none_from k zero h = refl
  none_from k (suc n) h = passed k n (h k (omega arith)) ∙ none_from (suc k) n (λ j l. h j (omega arith))

  first_from_lem : (k n j : ℕ) → k ≤ j → j < k + n → IsFirst picks j → first_from picks k n ≡ suc j
  first_from_lem k zero j a b f = absurd (omega arith)
  first_from_lem k (suc n) j a b f = go (le_split k j (omega arith)) (λ l. first_from_lem (suc k) n j l (omega arith) f)
    where
      go : (k ≡ j) ⊎ (k < j) → (suc k ≤ j → first_from picks (suc k) n ≡ suc j) → first_from picks k (suc n) ≡ suc j
      go (inl e) g = met k n (subst (λ (i : ℕ). picks i ≡ true) (sym e) f.picked) ∙ ap suc e
      go (inr l) g = passed k n (f.none_before k l) ∙ g l

  -- ---- so of the first n things
  pub is_none : (n : ℕ) → NoneBelow n → first_picked picks n ≡ 0
  is_none n h = none_from 0 n (λ j l. h j (omega arith))

  pub is_first : (n k : ℕ) → IsFirst picks k → k < n → first_picked picks n ≡ suc k
  is_first n k f l = first_from_lem 0 n k (omega arith) (omega arith) f

  pub none_is : (n : ℕ) → first_picked picks n ≡ 0 → NoneBelow n
  none_is n e = go (either n)
    where
      go : NoneBelow n ⊎ FirstBelow n → NoneBelow n
      go (inl h) = h
      go (inr f) = absurd (omega (arith, e, is_first n f.at f.first f.below))

  pub first_is : (n k : ℕ) → first_picked picks n ≡ suc k → IsFirst picks k × (k < n)
  first_is n k e = go (either n)
    where
      go : NoneBelow n ⊎ FirstBelow n → IsFirst picks k × (k < n)
      go (inl h) = absurd (omega (arith, e, is_none n h))
      go (inr f) =
          let i : f.at ≡ k = omega (arith, e, is_first n f.at f.first f.below) in
          (subst (IsFirst picks) i f.first, omega (arith, f.below))

  -- it is no place beyond them
  pub first_most : (n : ℕ) → first_picked picks n ≤ n
  first_most n = go (either n)
    where
      go : NoneBelow n ⊎ FirstBelow n → first_picked picks n ≤ n
      go (inl h) = omega (arith, is_none n h)
      go (inr f) = omega (arith, is_first n f.at f.first f.below, f.below)
