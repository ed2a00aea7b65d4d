-- Ranges of whole numbers, each a record, so that a proof can infer the bound from it.
use Rattle.std.specs.Prelude.{Bool, ◌&&◌, ℕ, ◌+◌, ◌-◌, ◌*◌, ◌/◌, ◌^◌, ◌≤◌, ◌<◌, ℤ, nat_abs, ◌≤ℤ◌}
use Rattle.std.specs.Int.Signed.{le_z}

-- "a to b": z is one of the whole numbers from a to b, both included
pub record FromTo (a b z : ℤ) : Type 0 where
  pub low : a ≤ℤ z
  pub high : z ≤ℤ b

-- the test of it
abbrev pub is_from_to : ℤ → ℤ → ℤ → Bool
is_from_to a b z = le_z a z && le_z z b

-- z lies from -n to n
pub record Within (n : ℕ) (z : ℤ) : Type 0 where
  pub within : nat_abs z ≤ n

-- the product of a and b fits 64 bits
pub record ProductFits (a b : ℤ) : Type 0 where
  pub product : nat_abs a * nat_abs b < 2 ^ 63

-- every step of floor(a b / d) fits 64 bits, where the product itself need not: with b = q d + s and a = u d + v, these
-- are a q, u s, v s and the sum of the first two with floor(v s / d)
pub record SplitFits (a b d : ℤ) : Type 0 where
  pub sums : nat_abs a * (nat_abs b / nat_abs d) + nat_abs a / nat_abs d * nat_abs d + nat_abs d < 2 ^ 63
  pub rests : nat_abs d * nat_abs d < 2 ^ 63

-- how far apart two numbers are
abbrev pub apart : ℕ → ℕ → ℕ
apart a b = (a - b) + (b - a)
