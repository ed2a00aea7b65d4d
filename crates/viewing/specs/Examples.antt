-- Searches by computation on the definitions (02, Item 3), each beside the answer of the exact program (reference/exact.py): around the opposition of
-- Mars on 27 July 2018, behind the Sun on 2 September 2019, and each refusal.
use Rattle.std.specs.Prelude.{List, [], ◌∷◌, map, ◌≡◌, refl, ℤ, pos, Ok, Err}
use Rattle.std.specs.Float.{nan}
use Rattle.integers.specs.First.{first_from}
use Rattle.integers.specs.Floor.{end_turn}
use Rattle.integers.specs.Root.{root_from, root_of}
use Rattle.refusals.specs.declared.Refusal.TheVariants.{NotFinite, OutsideInterval, NoSuchBody, BadCount, NoSuchTable, NoSuchDate}
use Rattle.angles.specs.Unit.{one_turn}
use Rattle.angles.specs.Entry.{factorial, part, whole, term, plus_terms, minus_terms, entry}
use Rattle.angles.specs.Sine.{quarter_sine, half_sine, sine_of, cosine_of}
use Rattle.dates.specs.declared.Date.{Date}
use Rattle.dates.specs.declared.Date.TheVariants.{Julian, Minutes}
use Rattle.dates.specs.Minute.{minute_of_julian, drift_of}
use Rattle.dates.specs.Moment.{tested, moment_at, is_step}
use Rattle.tables.specs.Table.{table1, table_row, table_terms, interval_of, moment_after}
use Rattle.kepler.specs.Equation.{F, error_of}
use Rattle.kepler.specs.Eccentric.{reaches, halved, last_below, nearer_of, eccentric}
use Rattle.orbits.specs.Elements.{square_term, periodic_terms}
use Rattle.orbits.specs.Place.{minor_of, plane_x, plane_y, coefficients_of, place_of}
use Rattle.viewing.specs.declared.Search.{Search}
use Rattle.viewing.specs.Hit.{aspect_at, is_hit}
use Rattle.viewing.specs.Viewing.{is_search, span_moment, is_planet, ended, viewing_answer}

-- a start, a table, a step, a count, a body, and the answer
abbrev pub searches : List (Date × ℤ × ℤ × ℤ × ℤ × Search)
searches =
    -- by the day, the opposition lies between the two dates
    (Minutes (pos 9764640), pos 1, pos 1440, pos 2, pos 4, ended (Ok (pos 9766080)) 2)
    -- "the first date has none before it"
    ∷ (Minutes (pos 9766080), pos 1, pos 1440, pos 1, pos 4, ended (Err NoSuchDate) 1)
    -- the cross product changes its sign, with Mars behind the Sun
    ∷ (Minutes (pos 10343520), pos 1, pos 1440, pos 2, pos 4, ended (Err NoSuchDate) 2)
    -- refusals 10, 1, 11, 2 and 3, each beside those that come after it: the last date is a minute outside, the body is 3
    ∷ (Julian nan, pos 3, pos 1440, pos 4001, pos 3, ended (Err BadCount) 0)
    ∷ (Julian nan, pos 3, pos 1440, pos 2, pos 3, ended (Err NotFinite) 0)
    ∷ (Minutes (pos 26296561), pos 3, pos 1440, pos 2, pos 3, ended (Err NoSuchTable) 0)
    ∷ (Minutes (pos 26296561), pos 1, pos 1440, pos 2, pos 3, ended (Err OutsideInterval) 0)
    ∷ (Minutes (pos 26296560), pos 1, pos 1440, pos 2, pos 3, ended (Err NoSuchBody) 0)
    ∷ []

abbrev pub answered : Date × ℤ × ℤ × ℤ × ℤ × Search → Search
answered e = viewing_answer e.0 e.1 e.2 e.3 e.4

pub answered_so : map answered searches ≡ map (λ (e : Date × ℤ × ℤ × ℤ × ℤ × Search). e.5) searches
unfolding viewing_answer is_search is_step span_moment is_planet is_hit aspect_at first_from moment_after moment_at minute_of_julian tested table_row table_terms interval_of square_term periodic_terms table1 drift_of one_turn sine_of cosine_of half_sine quarter_sine entry plus_terms minus_terms term whole part factorial eccentric nearer_of last_below halved reaches error_of F end_turn root_of root_from minor_of plane_x plane_y coefficients_of place_of
answered_so = refl
