-- The frames of document 01: 1 HAE of J2000; 2 GEI of J2000; 3 HCI; 4 HEE; 5 HEEQ. "Each of 2 to 5 is an array of three rows of
-- three numbers that turns HAE into it". `earth` is the Earth's place in HAE on the date.
use Rattle.std.specs.Prelude.{Bool, true, false, cond, List, [], ◌∷◌, ℤ, pos, neg_ℤ}
use Rattle.integers.specs.Range.{FromTo, is_from_to}
use Rattle.integers.specs.Triple.{at}
use Rattle.integers.specs.Floor.{unit_product}
use Rattle.integers.specs.Sign.{same}
use Rattle.angles.specs.Sine.{sine_of, cosine_of}
use Rattle.vectors.specs.Vector.{row_at, applied, way_of, unit_of, cross_of}

-- "1 HAE of J2000; 2 GEI of J2000; 3 HCI; 4 HEE; 5 HEEQ", and refusal 4's test of one
abbrev pub KnownFrame : ℤ → Type 0
KnownFrame f = FromTo (pos 1) (pos 5) f

abbrev pub is_frame : ℤ → Bool
is_frame f = is_from_to (pos 1) (pos 5) f

-- those that have rows: "Each of 2 to 5 is an array of three rows"; and those that go by the Earth's place, HEE and HEEQ
abbrev pub HasRows : ℤ → Type 0
HasRows f = FromTo (pos 2) (pos 5) f

abbrev pub needs_earth : ℤ → Bool
needs_earth f = is_from_to (pos 4) (pos 5) f

-- "GEI: 002 (8-35), but with obliquity 23,439,291": x, cos ε y - sin ε z, sin ε y + cos ε z
abbrev pub obliquity : ℤ
obliquity = pos 23439291

unfoldable pub gei_rows : List (List ℤ)
gei_rows =
    (pos 1000000000 ∷ pos 0 ∷ pos 0 ∷ [])
    ∷ (pos 0 ∷ cosine_of obliquity ∷ neg_ℤ (sine_of obliquity) ∷ [])
    ∷ (pos 0 ∷ sine_of obliquity ∷ cosine_of obliquity ∷ [])
    ∷ []

-- "HCI: 000's E(node, tilt, 0) with node 75,760,000 and tilt 7,250,000"
abbrev pub node : ℤ
node = pos 75760000

abbrev pub tilt : ℤ
tilt = pos 7250000

unfoldable pub hci_rows : List (List ℤ)
hci_rows =
    (cosine_of node ∷ sine_of node ∷ pos 0 ∷ [])
    ∷ (neg_ℤ (unit_product (sine_of node) (cosine_of tilt)) ∷ unit_product (cosine_of node) (cosine_of tilt) ∷ sine_of tilt ∷ [])
    ∷ (unit_product (sine_of node) (sine_of tilt) ∷ neg_ℤ (unit_product (cosine_of node) (sine_of tilt)) ∷ cosine_of tilt ∷ [])
    ∷ []

-- "The last row is the solar axis, S"
unfoldable pub solar_axis : List ℤ
solar_axis = row_at hci_rows 2

-- "the Earth's (x, y, 0)"
abbrev pub on_ecliptic : List ℤ → List ℤ
on_ecliptic earth = at earth 0 ∷ at earth 1 ∷ pos 0 ∷ []

-- "HEE: X is the unit vector of the Earth's (x, y, 0), Z is (0, 0, 10^9), Y is (-X2, X1, 0)"
abbrev pub hee_of : List ℤ → List (List ℤ)
hee_of X = X ∷ (neg_ℤ (at X 1) ∷ at X 0 ∷ pos 0 ∷ []) ∷ (pos 0 ∷ pos 0 ∷ pos 1000000000 ∷ []) ∷ []

unfoldable pub hee_rows : List ℤ → List (List ℤ)
hee_rows earth = hee_of (unit_of (on_ecliptic earth))

-- S×U, for U the unit vector of a place
abbrev pub axis_cross : List ℤ → List ℤ
axis_cross r = cross_of solar_axis (unit_of r)

-- "HEEQ: with U the unit vector to the Earth, Y = unit(S×U), X = Y×S, Z = S"
abbrev pub heeq_of : List ℤ → List (List ℤ)
heeq_of Y = cross_of Y solar_axis ∷ Y ∷ solar_axis ∷ []

unfoldable pub heeq_rows : List ℤ → List (List ℤ)
heeq_rows earth = heeq_of (unit_of (axis_cross earth))

-- the rows that turn HAE into frame f, from 2 to 5
unfoldable pub rotation_of : ℤ → List ℤ → List (List ℤ)
rotation_of f earth = cond (same f (pos 2)) gei_rows (cond (same f (pos 3)) hci_rows (cond (same f (pos 4)) (hee_rows earth) (heeq_rows earth)))

-- from HAE to frame f, or back; frame 1 is HAE itself
unfoldable pub hae_turned : (back : Bool) → ℤ → List ℤ → List ℤ → List ℤ
hae_turned back f earth v = cond (same f (pos 1)) v (applied (way_of back (rotation_of f earth)) v)

-- "Between two frames that are not HAE the vector goes by way of HAE. A frame to itself leaves the vector unchanged."
unfoldable pub turned_between : ℤ → ℤ → List ℤ → List ℤ → List ℤ
turned_between f g earth v = cond (same f g) v (hae_turned false g earth (hae_turned true f earth v))
