-- The solver's answer: refusal 7 for an e under 0 or over 90,000,000, and the eccentric anomaly for every other.
use Rattle.std.specs.Prelude.{Bool, true, false, ◌≡◌, ℤ, pos, Result, Ok, Err}
use Rattle.integers.specs.Range.{is_from_to}
use Rattle.refusals.specs.declared.Refusal.{Refusal}
use Rattle.refusals.specs.declared.Refusal.TheVariants.{NoEllipse}
use Rattle.angles.specs.declared.Angle.{Angle}
use Rattle.angles.specs.Unit.{angle_of, millionths}
use Rattle.kepler.specs.Equation.{Elliptic, Solves}
use Rattle.kepler.specs.Eccentric.{eccentric}

-- the test of refusal 7
abbrev pub is_elliptic : ℤ → Bool
is_elliptic e = is_from_to (pos 0) (pos 90000000) e

abbrev pub solved_if : (elliptic : Bool) → ℤ → ℤ → Result Angle Refusal
solved_if true e M = Ok (angle_of (eccentric e M))
solved_if false e M = Err NoEllipse

-- the answer to e and M
abbrev pub solved_of : ℤ → ℤ → Result Angle Refusal
solved_of e M = solved_if (is_elliptic e) e M

-- the same in document 01's own words: what is answered solves, and what is refused is refused by 7, for an e that is none
abbrev pub Answers : ℤ → ℤ → Result Angle Refusal → Type 0
Answers e M (Ok E) = Elliptic e × Solves e M (millionths E)
Answers e M (Err r) = (r ≡ NoEllipse) × (Elliptic e → ⊥)

-- the value of an answer, zero where there is none
abbrev pub anomaly_angle : Result Angle Refusal → ℤ
anomaly_angle (Ok E) = millionths E
anomaly_angle (Err r) = pos 0
