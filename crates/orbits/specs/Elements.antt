-- Document 01, "From date to place", steps 1 and 2: elements, mean anomaly and angles from a row of twelve numbers; document 02, Item 1: the
-- terms that a table may add to the mean anomaly.
use Rattle.std.specs.Prelude.{ℕ, ◌+◌, List, ℤ, pos, ◌+ℤ◌, ◌-ℤ◌, get_or}
use Rattle.integers.specs.Floor.{unit_product}
use Rattle.integers.specs.Triple.{at}
use Rattle.angles.specs.Unit.{element_of, hundred_millionths, in_millionths, one_turn}
use Rattle.angles.specs.Sine.{sine_of, cosine_of}
use Rattle.dates.specs.Minute.{drift_of}
use Rattle.orbits.specs.declared.Elements.{Elements}

-- step 1 for element k of a row on minute m, x0 + floor(rate·m / 52,596,000): x0 stands at k, its rate six further
abbrev pub element_in : List ℤ → ℕ → ℤ → ℤ
element_in row k m = get_or row k (pos 0) +ℤ drift_of (get_or row (k + 6) (pos 0)) m

abbrev pub elements_at : List ℤ → ℤ → Elements
elements_at row m =
    record {
      a = element_of (element_in row 0 m);
      e = element_of (element_in row 1 m);
      inclination = element_of (element_in row 2 m);
      longitude = element_of (element_in row 3 m);
      perihelion = element_of (element_in row 4 m);
      node = element_of (element_in row 5 m);
    }

-- 02, Item 1: "extra terms b·T², c·cos(fT) and s·sin(fT) in M"
-- "b·T² is step 1's floor(b·m / 52,596,000) done twice"
unfoldable pub square_term : (b : ℤ) → ℤ → ℤ
square_term b m = drift_of (drift_of b m) m

-- "fT is it done once, then divided by 100 with floor", an angle
abbrev pub phase_of : (f : ℤ) → ℤ → ℤ
phase_of f m = in_millionths (drift_of f m)

-- "the others are c∘cos(fT) and s∘sin(fT)"
unfoldable pub periodic_terms : (c s f : ℤ) → ℤ → ℤ
periodic_terms c s f m = unit_product c (cosine_of (phase_of f m)) +ℤ unit_product s (sine_of (phase_of f m))

-- by the four numbers b, c, s and f
abbrev pub extra_of : List ℤ → ℤ → ℤ
extra_of terms m = square_term (at terms 0) m +ℤ periodic_terms (at terms 1) (at terms 2) (at terms 3) m

-- step 2: M is L minus the longitude of perihelion; "All are added to M in element counts"; then it is divided by 100 with floor and
-- brought to one turn
abbrev pub mean_anomaly_of : Elements → (extra : ℤ) → ℤ
mean_anomaly_of x extra = one_turn (in_millionths (hundred_millionths x.longitude -ℤ hundred_millionths x.perihelion +ℤ extra))

-- the mean anomaly on minute m, by a row of twelve numbers and the four of its further terms
abbrev pub mean_at : (row terms : List ℤ) → ℤ → ℤ
mean_at row terms m = mean_anomaly_of (elements_at row m) (extra_of terms m)

-- step 2: the argument of perihelion is the longitude of perihelion minus the node; the inclination and the node are divided too
abbrev pub argument_of : Elements → ℤ
argument_of x = in_millionths (hundred_millionths x.perihelion -ℤ hundred_millionths x.node)

abbrev pub inclination_of : Elements → ℤ
inclination_of x = in_millionths (hundred_millionths x.inclination)

abbrev pub node_of : Elements → ℤ
node_of x = in_millionths (hundred_millionths x.node)
