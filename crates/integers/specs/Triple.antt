-- Triples of numbers: places, vectors and the rows of a rotation are lists of three.
use Rattle.std.specs.Prelude.{List, [], ◌∷◌, ℕ, ℤ, pos, get_or}
use Rattle.integers.specs.Range.{Within}

-- part i, counted from 0
abbrev pub at : List ℤ → ℕ → ℤ
at v i = get_or v i (pos 0)

abbrev pub zeros : List ℤ
zeros = pos 0 ∷ pos 0 ∷ pos 0 ∷ []

-- each part of v lies from -n to n
pub record PartsWithin (n : ℕ) (v : List ℤ) : Type 0 where
  pub part : (i : ℕ) → Within n (at v i)
