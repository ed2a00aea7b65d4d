-- Document 01, "Rows and sheets": a number in bytes, "big-endian" and "two's complement", and back.
use Rattle.std.specs.Prelude.{List, [], ◌∷◌, ◌++◌, ℕ, zero, suc, ◌+◌, ◌*◌, ◌/◌, ◌%◌, ℤ}
use Rattle.std.specs.Int.{w64}
use Rattle.std.proofs.Common.{of_z, to_z}

-- the k low bytes of n, the high one first: those of n / 256, and then the lowest
unfoldable pub big_endian : ℕ → ℕ → List ℕ
big_endian zero n = []
big_endian (suc k) n = big_endian k (n / 256) ++ (n % 256 ∷ [])

-- the number that n and the bytes after it stand for, the high one first: with a byte b, n becomes 256 n + b
unfoldable pub big_from : ℕ → List ℕ → ℕ
big_from n [] = n
big_from n (b ∷ bs) = big_from (n * 256 + b) bs

-- the number that bytes stand for
abbrev pub big_number : List ℕ → ℕ
big_number bytes = big_from 0 bytes

-- a signed number in a field of k bytes: the k low ones of its 64 bits in two's complement
abbrev pub field_bytes : ℕ → ℤ → List ℕ
field_bytes k z = big_endian k (of_z w64 z)

-- the signed number that has the bits of a field's bytes
abbrev pub field_number : List ℕ → ℤ
field_number bytes = to_z w64 (big_number bytes)
