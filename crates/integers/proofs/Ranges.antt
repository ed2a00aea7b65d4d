-- "a to b": the record, its test, and the test's outcome say the same; what a range says of a number's size.
-- The test is two comparisons, and the record's two fields are what they tell.
use mathlib.Core.Bool.{Bool, true, false}
use mathlib.Core.Path.{◌≡◌, refl, subst, sym}
use Prim.Native.Nat.{ℕ, ◌≤◌}
use lib.Dec.{T, leb→le}
use lib.IntN.{ℤ, pos, negsuc, neg_ℤ, nat_abs, neg_ℤ-neg_ℤ}
use lib.Signed.{le_z, ◌≤ℤ◌, ◌<ℤ◌, clash_ℤ}
use mir.Facts.{and_yes, yes_and}
use Rattle.integers.specs.Range.{Within, FromTo, is_from_to}
use Rattle.integers.proofs.Difference.{zarith, d_abs, up_neg, dn_neg}
use Rattle.integers.proofs.Table.{yes, no}

module _ (a b z : ℤ) where
  pub to_test : FromTo a b z → T (is_from_to a b z)
  to_test h = yes_and (le_z a z) (le_z z b) h.low.le h.high.le

  pub of_test : T (is_from_to a b z) → FromTo a b z
  of_test t =
      let h = and_yes (le_z a z) (le_z z b) t in
      record { low = record { le = h.0 }; high = record { le = h.1 } }

  -- the outcome of the test
  pub is_inside : FromTo a b z → is_from_to a b z ≡ true
  is_inside h = yes (is_from_to a b z) (to_test h)

  pub is_outside : (FromTo a b z → ⊥) → is_from_to a b z ≡ false
  is_outside n = no (is_from_to a b z) (λ t. n (of_test t))

  pub inside_of : is_from_to a b z ≡ true → FromTo a b z
  inside_of e = of_test (subst T (sym e) tt)

  pub outside_of : is_from_to a b z ≡ false → FromTo a b z → ⊥
  outside_of e h = subst T e (to_test h)

  -- one of its two sides
  pub is_below : z <ℤ a → is_from_to a b z ≡ false
  is_below l = is_outside (λ (h : FromTo a b z). clash_ℤ l h.low)

  pub is_above : b <ℤ z → is_from_to a b z ≡ false
  is_above l = is_outside (λ (h : FromTo a b z). clash_ℤ l h.high)

-- a number between two of which neither is larger than n is not larger
pub range_within : (a b z : ℤ) (n : ℕ) → FromTo a b z → nat_abs a ≤ n → nat_abs b ≤ n → Within n z
range_within a b (pos z) n h p q = record { within = omega (zarith, h.high, d_abs b) }
range_within a b (negsuc z) n h p q = record { within = omega (zarith, h.low, d_abs a) }

-- a number from a, which is not negative, on is its own size
pub range_size : {n : ℕ} (a : ℕ) (z : ℤ) → FromTo (pos a) (pos n) z → pos (nat_abs z) ≡ z
range_size a (pos z) h = refl
range_size a (negsuc z) h = absurd h.low.le

pub range_most : {n : ℕ} (a : ℕ) (z : ℤ) → FromTo (pos a) (pos n) z → nat_abs z ≤ n
range_most {n} a (pos z) h = leb→le z n h.high.le
range_most a (negsuc z) h = absurd h.low.le

pub range_least : {n : ℕ} (a : ℕ) (z : ℤ) → FromTo (pos a) (pos n) z → a ≤ nat_abs z
range_least a (pos z) h = leb→le a z h.low.le
range_least a (negsuc z) h = absurd h.low.le

-- a range that goes as far below 0 as above it holds a number where it holds the opposite one
opposite_in : (n : ℕ) (z : ℤ) → FromTo (neg_ℤ (pos n)) (pos n) z → FromTo (neg_ℤ (pos n)) (pos n) (neg_ℤ z)
opposite_in n z h =
    record {
      low = omega (zarith, h.high, up_neg z, dn_neg z, up_neg (pos n), dn_neg (pos n));
      high = omega (zarith, h.low, up_neg z, dn_neg z, up_neg (pos n), dn_neg (pos n));
    }

pub range_opposite : (n : ℕ) (z : ℤ) → is_from_to (neg_ℤ (pos n)) (pos n) (neg_ℤ z) ≡ is_from_to (neg_ℤ (pos n)) (pos n) z
range_opposite n z = go (is_from_to a b z) refl
  where
    a : ℤ
    a = neg_ℤ (pos n)

    b : ℤ
    b = pos n

    go : (t : Bool) → is_from_to a b z ≡ t → is_from_to a b (neg_ℤ z) ≡ t
    go true e = is_inside a b (neg_ℤ z) (opposite_in n z (inside_of a b z e))
    go false e = is_outside a b (neg_ℤ z) (λ (h : FromTo a b (neg_ℤ z)). outside_of a b z e (subst (FromTo a b) (neg_ℤ-neg_ℤ z) (opposite_in n (neg_ℤ z) h)))

-- a range inside another
pub range_more : {a b c d z : ℤ} → FromTo a b z → T (le_z c a) → T (le_z b d) → FromTo c d z
range_more {a} {b} {c} {d} h p q =
    let l : c ≤ℤ a = record { le = p } in
    let m : b ≤ℤ d = record { le = q } in
    record { low = omega (zarith, l, h.low); high = omega (zarith, h.high, m) }
