-- Document 01, "Checked examples": those with a star, as one statement over a list, closed by computation.
use Rattle.std.specs.Prelude.{Bool, true, ◌&&◌, List, [], ◌∷◌, ℕ, T, eqb, ℤ, pos, negsuc}
use Rattle.std.specs.Float.{binary64}
use Rattle.std.specs.Float.Ieee.{of_bits}
use Rattle.integers.specs.Sign.{same}
use Rattle.integers.specs.Floor.{end_turn}
use Rattle.integers.specs.Root.{root_from, root_of}
use Rattle.angles.specs.Unit.{one_turn}
use Rattle.angles.specs.Entry.{factorial, part, whole, term, plus_terms, minus_terms, entry}
use Rattle.angles.specs.Sine.{quarter_sine, half_sine, sine_of, cosine_of}
use Rattle.kepler.specs.Equation.{e_star, F, error_of}
use Rattle.kepler.specs.Eccentric.{reaches, halved, last_below, nearer_of, eccentric}
use Rattle.kepler.specs.Answer.{solved_of, anomaly_angle}
use Rattle.dates.specs.declared.Date.{Date}
use Rattle.dates.specs.declared.Date.TheVariants.{Julian, Minutes}
use Rattle.dates.specs.Minute.{julian_minute, minute_of_julian, drift_of}
use Rattle.dates.specs.Moment.{tested, moment_at, moment_minute}
use Rattle.tables.specs.Table.{table1, default_table, table_row, table_terms, interval_of, moment_after}
use Rattle.orbits.specs.Elements.{element_in, elements_at, square_term, periodic_terms, mean_at, inclination_of}
use Rattle.frames.specs.declared.Coordinates.{Coordinates}
use Rattle.vectors.specs.Vector.{length_of, unit_of, cross_of, applied}
use Rattle.frames.specs.Frame.{hci_rows, solar_axis}
use Rattle.frames.specs.Answer.{as_coordinates, turned_vector}
use Rattle.frames.specs.Rtn.{rtn_rows, rtn_turned, to_rtn}
use Rattle.refusals.specs.Number.{status_of}

-- what an example says
pub data Example : Type 0 where
  -- a date is accepted as this minute; a date has this refusal
  is_minute : Date → ℤ → Example
  is_refused : Date → ℤ → Example
  -- element k of a body on a minute; its inclination and its mean anomaly as angles
  is_element : ℤ → ℕ → ℤ → ℤ → Example
  is_inclination : ℤ → ℤ → ℤ → Example
  is_mean : ℤ → ℤ → ℤ → Example
  is_sine : ℤ → ℤ → Example
  -- e and M give E; the error that E leaves; e and M have this refusal
  is_anomaly : ℤ → ℤ → ℤ → Example
  is_error : ℤ → ℤ → ℤ → ℕ → Example
  is_no_anomaly : ℤ → ℤ → ℤ → Example
  -- a vector at a place r is this one in RTN
  is_rtn : List ℤ → List ℤ → List ℤ → Example

abbrev pub same_coordinates : Coordinates → Coordinates → Bool
same_coordinates p q = same p.x q.x && (same p.y q.y && same p.z q.z)

abbrev pub holds : Example → Bool
holds (is_minute d m) = same (status_of (moment_after d default_table (pos 0))) (pos 0) && same (moment_minute (moment_after d default_table (pos 0))) m
holds (is_refused d n) = same (status_of (moment_after d default_table (pos 0))) n
holds (is_element body k m x) = same (element_in (table_row default_table body) k m) x
holds (is_inclination body m x) = same (inclination_of (elements_at (table_row default_table body) m)) x
holds (is_mean body m x) = same (mean_at (table_row default_table body) (table_terms default_table body) m) x
holds (is_sine t x) = same (sine_of t) x
holds (is_anomaly e M E) = same (status_of (solved_of e M)) (pos 0) && same (anomaly_angle (solved_of e M)) E
holds (is_error e M E n) = eqb (error_of (e_star e) (one_turn M) E) n
holds (is_no_anomaly e M n) = same (status_of (solved_of e M)) n
holds (is_rtn r v x) = same (status_of (to_rtn r v)) (pos 0) && same_coordinates (turned_vector (to_rtn r v)) (as_coordinates x)

abbrev pub all : List Example → Bool
all [] = true
all (x ∷ xs) = holds x && all xs

-- a double is given by its bits
abbrev pub examples : List Example
examples =
    -- JD 2451545.015625 is minute 23; 2451544.984375 is minute -22
    is_minute (Julian (of_bits binary64 0x4142_b42c_8200_0000)) (pos 23)
    ∷ is_minute (Julian (of_bits binary64 0x4142_b42c_7e00_0000)) (negsuc 21)
    -- the interval's ends
    ∷ is_minute (Minutes (pos 26298000)) (pos 26298000)
    ∷ is_refused (Minutes (pos 26298001)) (pos 2)
    ∷ is_minute (Minutes (negsuc 105189839)) (negsuc 105189839)
    ∷ is_refused (Minutes (negsuc 105189840)) (pos 2)
    -- body 3: e at minutes 0, 1, -1, and I at minute 0
    ∷ is_element (pos 3) 1 (pos 0) (pos 1671123)
    ∷ is_element (pos 3) 1 (pos 1) (pos 1671122)
    ∷ is_element (pos 3) 1 (negsuc 0) (pos 1671123)
    ∷ is_inclination (pos 3) (pos 0) (negsuc 15)
    -- M at minute 0: Mars, body 3, Jupiter
    ∷ is_mean (pos 4) (pos 0) (pos 19390197)
    ∷ is_mean (pos 3) (pos 0) (negsuc 2473110)
    ∷ is_mean (pos 5) (pos 0) (pos 19667960)
    -- the four sines
    ∷ is_sine (pos 50000) (pos 872664)
    ∷ is_sine (negsuc 49999) (negsuc 872663)
    ∷ is_sine (pos 30000000) (pos 500000000)
    ∷ is_sine (pos 45000000) (pos 707106781)
    -- the solver at e 90,000,000 and beyond
    ∷ is_anomaly (pos 90000000) (pos 0) (pos 0)
    ∷ is_anomaly (pos 90000000) (pos 1) (pos 10)
    ∷ is_error (pos 90000000) (pos 1) (pos 10) 27480852
    ∷ is_anomaly (pos 90000000) (negsuc 179999999) (negsuc 179999999)
    ∷ is_no_anomaly (pos 90000001) (pos 0) (pos 7)
    -- RTN at r of r itself
    ∷ is_rtn (pos 10000000 ∷ pos 0 ∷ pos 0 ∷ []) (pos 10000000 ∷ pos 0 ∷ pos 0 ∷ []) (pos 10000000 ∷ pos 0 ∷ pos 0 ∷ [])
    ∷ []

pub examples_hold : T (all examples)
unfolding moment_after moment_at tested table_row table_terms interval_of square_term periodic_terms minute_of_julian julian_minute of_bits table1 drift_of one_turn sine_of cosine_of half_sine quarter_sine entry plus_terms minus_terms term whole part factorial eccentric nearer_of last_below halved reaches error_of F to_rtn rtn_turned rtn_rows solar_axis hci_rows length_of unit_of cross_of applied end_turn root_of root_from
examples_hold = tt
