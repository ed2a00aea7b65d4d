-- What a function knows of an array of signed 64-bit numbers that it was given, or got back: each element fits, at any index.
-- By recursion on the elements, of which the array's relation says so one by one; past the end `get_or` gives 0.
use mathlib.Core.List.{List, [], ◌∷◌}
use Prim.Native.Nat.{ℕ, zero, suc}
use lib.IntN.{ℤ, pos}
use mir.Syntax.{w64}
use mir.Val.{Val, SFits}
use denote.Array.{Array, each}
use denote.Shadow.{shadow}
use denote.Signed.{SInt}
use lib.ListN.{get_or}
use Rattle.integers.proofs.Number.{w_fits, w_lit}

zero_fits : SFits w64 (pos 0)
zero_fits = w_fits (w_lit (pos 0)) tt

-- of a parameter v these are `part_fits v g.0 g.1.1`, where g is what `c.good` says of it; of a rotation likewise
pub part_fits : (xs : List ℤ) (us : List Val) → shadow (each ℤ (SInt w64).own_val xs us) → (i : ℕ) → SFits w64 (get_or xs i (pos 0))
part_fits [] us p i = zero_fits
part_fits (x ∷ xs) [] p i = absurd p
part_fits (x ∷ xs) (u ∷ us) p zero = record { sfits = p.0.1 }
part_fits (x ∷ xs) (u ∷ us) p (suc i) = part_fits xs us p.1 i

pub entry_fits : (n : ℕ) (m : List (List ℤ)) (us : List Val) → shadow (each (List ℤ) (Array (SInt w64) n).own_val m us) → (i j : ℕ) → SFits w64 (get_or (get_or m i []) j (pos 0))
entry_fits n [] us p i j = zero_fits
entry_fits n (x ∷ m) [] p i j = absurd p
entry_fits n (x ∷ m) (u ∷ us) p zero j = part_fits x p.0.0 p.0.1.1 j
entry_fits n (x ∷ m) (u ∷ us) p (suc i) j = entry_fits n m us p.1 i j
