-- RTN (document 01, "Frames" and "Numbered refusals"): "a separate call, there and back, for a spacecraft's HAE place r". Its
-- answer is a vector, or refusal 5 or 6.
use Rattle.std.specs.Prelude.{Bool, true, false, ◌&&◌, List, [], ◌∷◌, leb, ℤ, Result, Ok, Err}
use Rattle.refusals.specs.declared.Refusal.TheVariants.{TooFar, NoDirection}
use Rattle.refusals.specs.declared.Refusal.{Refusal}
use Rattle.frames.specs.declared.Coordinates.{Coordinates}
use Rattle.vectors.specs.Vector.{applied, way_of, length_of, unit_of, cross_of}
use Rattle.frames.specs.Frame.{axis_cross}
use Rattle.frames.specs.Answer.{in_limits, as_coordinates}

-- "R = unit(r), T = unit(S×R), N = R×T"
abbrev pub rtn_of : List ℤ → List ℤ → List (List ℤ)
rtn_of R T = R ∷ T ∷ cross_of R T ∷ []

unfoldable pub rtn_rows : List ℤ → List (List ℤ)
rtn_rows r = rtn_of (unit_of r) (unit_of (axis_cross r))

-- refusal 6: "L of r under 100,000, or L of S×R under 1,000,000"
abbrev pub has_direction : List ℤ → Bool
has_direction r = leb 100000 (length_of r) && leb 1000000 (length_of (axis_cross r))

-- the answer by the tests of the two refusals, 5 before 6
abbrev pub answer_if : (isNear has_direction : Bool) → List ℤ → Result Coordinates Refusal
answer_if false b v = Err TooFar
answer_if true false v = Err NoDirection
answer_if true true v = Ok (as_coordinates v)

-- "Its rows are R, T, N, used as above", there or back
unfoldable pub rtn_turned : (back : Bool) → List ℤ → List ℤ → Result Coordinates Refusal
rtn_turned back r v = answer_if (in_limits v && in_limits r) (has_direction r) (applied (way_of back (rtn_rows r)) v)

-- a vector v of HAE as R, T, N parts at the place r, and back
unfoldable pub to_rtn : List ℤ → List ℤ → Result Coordinates Refusal
to_rtn r v = rtn_turned false r v

unfoldable pub from_rtn : List ℤ → List ℤ → Result Coordinates Refusal
from_rtn r v = rtn_turned true r v
