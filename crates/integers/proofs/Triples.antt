-- Bounds on the parts of a triple, and on products of them.
-- By the index; past the three parts `at` gives 0.
use mathlib.Core.List.{List, [], ◌∷◌}
use Prim.Native.Nat.{ℕ, zero, suc, zero-le}
use lib.Dec.{T, leb, leb→le}
use lib.IntN.{ℤ, ◌*ℤ◌}
use Rattle.integers.specs.Range.{Within}
use Rattle.integers.specs.Triple.{at, PartsWithin}
use Rattle.integers.proofs.Cast.{read}
use Rattle.integers.proofs.Number.{Num, known, mul, w_most}

pub none : {n : ℕ} (i : ℕ) → Within n (at [] i)
none i = record { within = zero-le }

pub three : {n : ℕ} {x y z : ℤ} → Within n x → Within n y → Within n z → PartsWithin n (x ∷ y ∷ z ∷ [])
three {n} {x} {y} {z} p q r = record { part = go }
  where
    go : (i : ℕ) → Within n (at (x ∷ y ∷ z ∷ []) i)
    go zero = p
    go (suc zero) = q
    go (suc (suc zero)) = r
    go (suc (suc (suc i))) = none i

pub parts_more : {m n : ℕ} {v : List ℤ} → PartsWithin m v → T (leb m n) → PartsWithin n v
parts_more {m} {n} p t = record { part = λ i. w_most (p.part i) (leb→le m n t) }

-- ---- parts of at most 10^9, as the machine reads them, and the product of two
pub part_num : {v : List ℤ} → PartsWithin 1000000000 v → (i : ℕ) → Num (read (at v i)) (at v i) 1000000000
part_num p i = known (p.part i) tt

pub parts_num : {a b : List ℤ} → PartsWithin 1000000000 a → PartsWithin 1000000000 b → (i j : ℕ) → Num (read (read (at a i) *ℤ read (at b j))) (at a i *ℤ at b j) 1000000000000000000
parts_num p q i j = mul (part_num p i) (part_num q j) tt
