-- Document 01, step 3: Kepler's equation in whole numbers. M and E count millionths of a degree, e hundred-millionths.
use Rattle.std.specs.Prelude.{◌≡◌, ℕ, ◌≤◌, ◌<◌, ℤ, pos, negsuc, nat_abs, ◌-ℤ◌, ◌*ℤ◌, ◌≤ℤ◌}
use Rattle.integers.specs.Range.{FromTo}
use Rattle.integers.specs.Floor.{floor_div}
use Rattle.angles.specs.Unit.{one_turn}
use Rattle.angles.specs.Sine.{sine_of}

-- e* = floor(e·57,295,780 / 10^8), 002's constant
abbrev pub e_star : ℤ → ℤ
e_star e = floor_div (e *ℤ pos 57295780) 100000000

-- F(E) = 10^9·E - e*·sin E
unfoldable pub F : ℤ → ℤ → ℤ
F es E = pos 1000000000 *ℤ E -ℤ es *ℤ sine_of E

-- the error that E leaves, |10^9·M - F(E)|, M being in one turn; 10^9 of it is a millionth of a degree
unfoldable pub error_of : ℤ → ℤ → ℤ → ℕ
error_of es M E = nat_abs (pos 1000000000 *ℤ M -ℤ F es E)

-- the whole numbers among which E is taken: from -180,000,000 to 180,000,000
abbrev pub Candidate : ℤ → Type 0
Candidate E = FromTo (negsuc 179999999) (pos 180000000) E

-- "an eccentricity from 0 to 0.9": every whole e from 0 to 90,000,000
abbrev pub Elliptic : ℤ → Type 0
Elliptic e = FromTo (pos 0) (pos 90000000) e

-- E is the whole number with the least error, the smaller of two that tie, and its error is below 10^9
pub record Solves (e M E : ℤ) : Type 0 where
  pub within : Candidate E
  pub best : (E' : ℤ) → Candidate E' → error_of (e_star e) (one_turn M) E ≤ error_of (e_star e) (one_turn M) E'
  pub smallest : (E' : ℤ) → Candidate E' → error_of (e_star e) (one_turn M) E' ≡ error_of (e_star e) (one_turn M) E → E ≤ℤ E'
  pub near : error_of (e_star e) (one_turn M) E < 1000000000
