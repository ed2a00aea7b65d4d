-- Decimal digits as bytes: of a whole number from 0, and of a signed one. No zero stands in front, and 0 is one digit.
use Rattle.std.specs.Prelude.{Bool, true, false, List, [], ◌∷◌, ◌++◌, ℕ, zero, suc, ◌+◌, ◌/◌, ◌%◌, ltb, ℤ, pos, negsuc}

-- the digits of n, of which is told whether it is below ten. The first number bounds how deep the recursion goes; n itself is enough
unfoldable pub decimal_from : ℕ → (belowTen : Bool) → ℕ → List ℕ
decimal_from zero below n = (48 + n) ∷ []
decimal_from (suc k) true n = (48 + n) ∷ []
decimal_from (suc k) false n = decimal_from k (ltb (n / 10) 10) (n / 10) ++ ((48 + n % 10) ∷ [])

unfoldable pub decimal_of : ℕ → List ℕ
decimal_of n = decimal_from n (ltb n 10) n

-- with the minus sign of a number below zero
abbrev pub signed_of : ℤ → List ℕ
signed_of (pos n) = decimal_of n
signed_of (negsuc n) = 45 ∷ decimal_of (suc n)
