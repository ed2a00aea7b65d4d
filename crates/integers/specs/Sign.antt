-- A number by its sign and its size, whether two numbers are one, and whether their signs are opposite.
use Rattle.std.specs.Prelude.{Bool, true, false, ℕ, eqb, ℤ, pos, negsuc, neg_ℤ, ◌*ℤ◌}
use Rattle.std.specs.Int.Signed.{lt_z}

-- the number of a size, below zero where it is negative
abbrev pub signed : (negative : Bool) → ℕ → ℤ
signed false n = pos n
signed true n = neg_ℤ (pos n)

-- a and b are one number
abbrev pub same : ℤ → ℤ → Bool
same (pos a) (pos b) = eqb a b
same (pos a) (negsuc b) = false
same (negsuc a) (pos b) = false
same (negsuc a) (negsuc b) = eqb a b

-- a and b have opposite signs: their product is below 0, so that 0 is opposite to nothing
abbrev pub opposite_signs : ℤ → ℤ → Bool
opposite_signs a b = lt_z (a *ℤ b) (pos 0)
