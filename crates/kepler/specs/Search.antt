-- Terms of the search's inner contracts, which no promise to a caller needs: grid points n = E + 180,000,000 have no sign, and F at
-- a grid point, raised by 180,000,000·10^9, has none either.
use Rattle.std.specs.Prelude.{◌≡◌, ℕ, ◌+◌, ◌-◌, ◌*◌, ◌≤◌, ℤ, pos, negsuc}
use Rattle.integers.specs.Range.{apart}
use Rattle.angles.specs.Sine.{half_sine}

-- F at grid point n, raised: sin(n - 180°) = -sin n, which is half_sine up to the half turn and minus half_sine after it
unfoldable pub raised : ℕ → ℕ → ℕ
raised es n = 1000000000 * n + es * half_sine n - es * half_sine (n - 180000000)

-- the grid point of an angle
unfoldable pub point_of : ℤ → ℕ
point_of (pos k) = 180000000 + k
point_of (negsuc j) = 179999999 - j

-- the grid point from 0 to n at which f is nearest to a target, the smaller of two that tie
pub record Nearest (f : ℕ → ℕ) (n target r : ℕ) : Type 0 where
  pub within : r ≤ n
  pub best : (k : ℕ) → k ≤ n → apart target (f r) ≤ apart target (f k)
  pub smallest : (k : ℕ) → k ≤ n → apart target (f k) ≡ apart target (f r) → r ≤ k
