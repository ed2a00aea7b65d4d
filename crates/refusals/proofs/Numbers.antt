-- Every refusal's number is one from 1 to 255, so that a byte holds it and none is 0; and no two refusals share one.
-- By the cases: each number is in range, and leads back to its refusal in the list of all.
use mathlib.Core.List.{List, [], ◌∷◌}
use mathlib.Core.Path.{◌≡◌, refl, sym, ap, ◌∙◌}
use Prim.Native.Nat.{◌-◌}
use native.Mathlib.Omega.{arith}
use lib.Dec.{T}
use lib.IntN.{ℤ, pos, nat_abs}
use lib.ListN.{get_or}
use Rattle.integers.specs.Range.{FromTo, is_from_to}
use Rattle.integers.proofs.Ranges.{of_test, range_least}
use Rattle.refusals.specs.declared.Refusal.{Refusal}
use Rattle.refusals.specs.declared.Refusal.TheVariants.{NotFinite, OutsideInterval, NoSuchBody, NoSuchFrame, TooFar, NoDirection, NoEllipse, ShortBuffer, NoRow, BadCount, NoSuchTable, NoSuchDate}
use Rattle.refusals.specs.Number.{number_of}

abbrev all : List Refusal
all = NotFinite ∷ OutsideInterval ∷ NoSuchBody ∷ NoSuchFrame ∷ TooFar ∷ NoDirection ∷ NoEllipse ∷ ShortBuffer ∷ NoRow ∷ BadCount ∷ NoSuchTable ∷ NoSuchDate ∷ []

abbrev with_number : ℤ → Refusal
with_number n = get_or all (nat_abs n - 1) NotFinite

numbered : (r : Refusal) → T (is_from_to (pos 1) (pos 255) (number_of r)) × (with_number (number_of r) ≡ r)
numbered NotFinite = (tt, refl)
numbered OutsideInterval = (tt, refl)
numbered NoSuchBody = (tt, refl)
numbered NoSuchFrame = (tt, refl)
numbered TooFar = (tt, refl)
numbered NoDirection = (tt, refl)
numbered NoEllipse = (tt, refl)
numbered ShortBuffer = (tt, refl)
numbered NoRow = (tt, refl)
numbered BadCount = (tt, refl)
numbered NoSuchTable = (tt, refl)
numbered NoSuchDate = (tt, refl)

pub number_is : (r : Refusal) → FromTo (pos 1) (pos 255) (number_of r)
number_is r = of_test (pos 1) (pos 255) (number_of r) (numbered r).0

pub number_not_0 : (r : Refusal) → number_of r ≡ pos 0 → ⊥
number_not_0 r e = absurd (omega (arith, range_least 1 (number_of r) (number_is r), ap nat_abs e))

pub number_only : (q r : Refusal) → number_of q ≡ number_of r → q ≡ r
number_only q r e = sym (numbered q).1 ∙ ap with_number e ∙ (numbered r).1
