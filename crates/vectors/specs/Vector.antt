-- Vectors of three numbers and rotations of three rows (document 01, "Frames"). In a rotation 10^9 stands for one.
use Rattle.std.specs.Prelude.{Bool, true, false, List, [], ◌∷◌, ℕ, zero, suc, ◌+◌, ◌*◌, get_or, ℤ, pos, neg_ℤ, nat_abs, ◌+ℤ◌, ◌-ℤ◌, ◌*ℤ◌}
use Rattle.integers.specs.Triple.{at, zeros}
use Rattle.integers.specs.Floor.{floor_div, end_turn}
use Rattle.integers.specs.Root.{root_of}

-- row i of a rotation, counted from 0
abbrev pub row_at : List (List ℤ) → ℕ → List ℤ
row_at m i = get_or m i []

-- "the row's sum of products"
abbrev pub dot_of : List ℤ → List ℤ → ℤ
dot_of a v = at a 0 *ℤ at v 0 +ℤ at a 1 *ℤ at v 1 +ℤ at a 2 *ℤ at v 2

-- a coordinate is "the row's sum of products over 10^9", ended "to the nearest whole number, a half away from zero" (02, Item 4)
unfoldable pub applied : List (List ℤ) → List ℤ → List ℤ
applied m v = end_turn (dot_of (row_at m 0) v) ∷ end_turn (dot_of (row_at m 1) v) ∷ end_turn (dot_of (row_at m 2) v) ∷ []

-- "The way back uses the same numbers with rows and columns exchanged"
abbrev pub column_of : List (List ℤ) → ℕ → List ℤ
column_of m j = at (row_at m 0) j ∷ at (row_at m 1) j ∷ at (row_at m 2) j ∷ []

abbrev pub transposed : List (List ℤ) → List (List ℤ)
transposed m = column_of m 0 ∷ column_of m 1 ∷ column_of m 2 ∷ []

-- the rows of a turn there, or back
abbrev pub way_of : (back : Bool) → List (List ℤ) → List (List ℤ)
way_of false m = m
way_of true m = transposed m

-- "opposite vectors give opposite results" (02, Item 4)
abbrev pub opposite_of : List ℤ → List ℤ
opposite_of v = neg_ℤ (at v 0) ∷ neg_ℤ (at v 1) ∷ neg_ℤ (at v 2) ∷ []

-- "L = floor of the square root of the sum of squares"
abbrev pub square_of : ℤ → ℕ
square_of z = nat_abs z * nat_abs z

abbrev pub squares_of : List ℤ → ℕ
squares_of v = square_of (at v 0) + square_of (at v 1) + square_of (at v 2)

unfoldable pub length_of : List ℤ → ℕ
length_of v = root_of (squares_of v)

-- "each part is floor(v·10^9 / L)". Document 01 divides by no L of 0; a vector of that length has zeros here
abbrev pub over_length : ℕ → List ℤ → List ℤ
over_length zero v = zeros
over_length (suc l) v = floor_div (at v 0 *ℤ pos 1000000000) (suc l) ∷ floor_div (at v 1 *ℤ pos 1000000000) (suc l) ∷ floor_div (at v 2 *ℤ pos 1000000000) (suc l) ∷ []

unfoldable pub unit_of : List ℤ → List ℤ
unit_of v = over_length (length_of v) v

-- "Cross products floor each part over 10^9"
abbrev pub cross_part : List ℤ → List ℤ → ℕ → ℕ → ℤ
cross_part a b i j = floor_div (at a i *ℤ at b j -ℤ at a j *ℤ at b i) 1000000000

unfoldable pub cross_of : List ℤ → List ℤ → List ℤ
cross_of a b = cross_part a b 1 2 ∷ cross_part a b 2 0 ∷ cross_part a b 0 1 ∷ []
