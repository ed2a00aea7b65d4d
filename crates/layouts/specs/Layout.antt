-- Document 01, "Rows and sheets": a row is fields one after the other. A layout is the list of their widths in bytes; a row's
-- numbers are a list in the same order.
use Rattle.std.specs.Prelude.{Bool, true, ◌&&◌, List, [], ◌∷◌, ◌++◌, ℕ, ◌+◌, leb, ℤ, pos, take, drop}
use Rattle.integers.specs.Sign.{same}
use Rattle.layouts.specs.Bytes.{field_bytes, field_number}

-- how many bytes fields of these widths take together
abbrev pub total : List ℕ → ℕ
total [] = 0
total (k ∷ ks) = k + total ks

-- no field is wider than the eight bytes of a number
abbrev pub narrow : List ℕ → Bool
narrow [] = true
narrow (k ∷ ks) = leb k 8 && narrow ks

-- the bytes of numbers in fields of these widths
unfoldable pub bytes_of : (widths : List ℕ) → (numbers : List ℤ) → List ℕ
bytes_of [] numbers = []
bytes_of (k ∷ ks) [] = []
bytes_of (k ∷ ks) (z ∷ zs) = field_bytes k z ++ bytes_of ks zs

-- the numbers in bytes, by fields of these widths
unfoldable pub numbers_in : (widths : List ℕ) → (bytes : List ℕ) → List ℤ
numbers_in [] bytes = []
numbers_in (k ∷ ks) bytes = field_number (take k bytes) ∷ numbers_in ks (drop k bytes)

-- nothing but zeros
abbrev pub are_zeros : List ℤ → Bool
are_zeros [] = true
are_zeros (z ∷ zs) = same z (pos 0) && are_zeros zs
