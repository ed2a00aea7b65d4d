-- The opposite of a vector is turned into the opposite of what the vector is turned into, by any three rows (02, Item 4).
-- A row's sum of products with the opposite is the opposite sum, and opposite sums have opposite ends.
use mathlib.Core.Path.{◌≡◌, ap, ◌∙◌}
use mathlib.Core.List.{List, [], ◌∷◌}
use lib.IntN.{ℤ, neg_ℤ, ◌+ℤ◌, ◌*ℤ◌}
use Rattle.integers.specs.Triple.{at}
use Rattle.integers.specs.Floor.{end_turn}
use Rattle.integers.proofs.Difference.{zarith, d_add, up_neg, dn_neg}
use Rattle.integers.proofs.Ring.{mul_neg}
use Rattle.integers.proofs.Ends.{end_turn_odd}
use Rattle.vectors.specs.Vector.{row_at, dot_of, applied, opposite_of}

opposite_sum : (x y : ℤ) → neg_ℤ x +ℤ neg_ℤ y ≡ neg_ℤ (x +ℤ y)
opposite_sum x y = omega (zarith, up_neg x, dn_neg x, up_neg y, dn_neg y, d_add x y, d_add (neg_ℤ x) (neg_ℤ y), up_neg (x +ℤ y), dn_neg (x +ℤ y))

pub dot_opposite : (a v : List ℤ) → dot_of a (opposite_of v) ≡ neg_ℤ (dot_of a v)
dot_opposite a v =
    let x = at a 0 *ℤ at v 0 in
    let y = at a 1 *ℤ at v 1 in
    let z = at a 2 *ℤ at v 2 in
    (λ i. mul_neg (at a 0) (at v 0) i +ℤ mul_neg (at a 1) (at v 1) i +ℤ mul_neg (at a 2) (at v 2) i)
    ∙ ap (λ (s : ℤ). s +ℤ neg_ℤ z) (opposite_sum x y)
    ∙ opposite_sum (x +ℤ y) z

pub applied_opposite : (m : List (List ℤ)) (v : List ℤ) → applied m (opposite_of v) ≡ opposite_of (applied m v)
unfolding applied
applied_opposite m v = λ i. part (row_at m 0) i ∷ part (row_at m 1) i ∷ part (row_at m 2) i ∷ []
  where
    part : (a : List ℤ) → end_turn (dot_of a (opposite_of v)) ≡ neg_ℤ (end_turn (dot_of a v))
    part a = ap end_turn (dot_opposite a v) ∙ end_turn_odd (dot_of a v)
