-- A function that computes the eccentric anomaly that solves Kepler's equation. F rises, so halving finds the last whole
-- number at which F is not above 10^9·M; the answer is that or the next, whichever leaves the smaller error.
use Rattle.std.specs.Prelude.{Bool, true, false, cond, ℕ, zero, suc, ◌+◌, ◌/◌, leb, ℤ, pos, ◌+ℤ◌, ◌*ℤ◌}
use Rattle.std.proofs.Math.IntN.{sub_ℕ}
use Rattle.std.specs.Int.Signed.{le_z}
use Rattle.angles.specs.Unit.{one_turn}
use Rattle.kepler.specs.Equation.{e_star, F, error_of}

-- the angle at grid point n of the 360,000,001, counted from -180,000,000
abbrev pub angle_at : ℕ → ℤ
angle_at n = sub_ℕ n 180000000

abbrev pub middle : ℕ → ℕ → ℕ
middle lo hi = (lo + hi) / 2

-- F at grid point n is not above 10^9·M
unfoldable pub reaches : ℤ → ℤ → ℕ → Bool
reaches es M n = le_z (F es (angle_at n)) (pos 1000000000 *ℤ M)

-- k halvings of the grid points from lo to hi; `reached` says whether F at their middle is not above 10^9·M
unfoldable pub halved : ℕ → (reached : Bool) → ℤ → ℤ → ℕ → ℕ → ℕ
halved zero b es M lo hi = lo
halved (suc k) true es M lo hi = halved k (reaches es M (middle (middle lo hi) hi)) es M (middle lo hi) hi
halved (suc k) false es M lo hi = halved k (reaches es M (middle lo (middle lo hi))) es M lo (middle lo hi)

-- 29 halvings leave one grid point of 360,000,000
unfoldable pub last_below : ℤ → ℤ → ℤ
last_below es M = angle_at (halved 29 (reaches es M 180000000) es M 0 360000000)

-- the nearer of E and the next, E where they tie
unfoldable pub nearer_of : ℤ → ℤ → ℤ → ℤ
nearer_of es M E = cond (leb (error_of es M E) (error_of es M (E +ℤ pos 1))) E (E +ℤ pos 1)

unfoldable pub eccentric : ℤ → ℤ → ℤ
eccentric e M = nearer_of (e_star e) (one_turn M) (last_below (e_star e) (one_turn M))
