-- What C gives and gets back: a date in one struct, and for each answer its number and its values, as the crates below define them.
use Rattle.std.specs.Prelude.{cond, ◌⊎◌, ◌≡◌, ℕ, ℤ, pos, Result}
use Rattle.integers.specs.Sign.{same}
use Rattle.refusals.specs.declared.Refusal.{Refusal}
use Rattle.refusals.specs.Number.{status_of}
use Rattle.angles.specs.declared.Angle.{Angle}
use Rattle.angles.specs.Unit.{hundred_millionths}
use Rattle.dates.specs.declared.Date.{Date}
use Rattle.dates.specs.declared.Date.TheVariants.{Julian, Minutes}
use Rattle.kepler.specs.Equation.{Elliptic, Solves}
use Rattle.kepler.specs.Answer.{anomaly_angle}
use Rattle.orbits.specs.declared.Elements.{Elements}
use Rattle.orbits.specs.Answer.{elements_found}
use Rattle.frames.specs.declared.Coordinates.{Coordinates}
use Rattle.frames.specs.Answer.{turned_vector}
use Rattle.projector.specs.declared.PlaceInAu.{PlaceInAu}
use Rattle.places.specs.Answer.{place_coordinates, au_place}
use Rattle.viewing.specs.declared.Search.{Search}
use Rattle.viewing.specs.Viewing.{viewing_status, viewing_minute, viewing_looked}
use Rattle.answers.specs.declared.CDate.{CDate}
use Rattle.answers.specs.declared.CAngle.{CAngle}
use Rattle.answers.specs.declared.CElements.{CElements}
use Rattle.answers.specs.declared.CVector.{CVector}
use Rattle.answers.specs.declared.CPlace.{CPlace}
use Rattle.answers.specs.declared.CViewing.{CViewing}

-- form 0: the Julian date; any other form: the minutes
abbrev pub date_of : CDate → Date
date_of d = cond (same d.form (pos 0)) (Julian d.julian) (Minutes d.minutes)

-- the solver's answer, and a mean anomaly
abbrev pub c_angle : Result Angle Refusal → CAngle
c_angle a = record { status = status_of a; angle = anomaly_angle a }

-- the solver's in document 01's own words: status 0 with an angle that solves, or status 7 for an e that is not 0 to 90,000,000
abbrev pub IsSolved : ℤ → ℤ → CAngle → Type 0
IsSolved e M r = ((r.status ≡ pos 0) × Elliptic e × Solves e M r.angle) ⊎ ((r.status ≡ pos 7) × (r.angle ≡ pos 0) × (Elliptic e → ⊥))

-- the six elements
abbrev pub six_elements : ℤ → Elements → CElements
six_elements s x =
    record {
      status = s;
      a = hundred_millionths x.a;
      e = hundred_millionths x.e;
      inclination = hundred_millionths x.inclination;
      longitude = hundred_millionths x.longitude;
      perihelion = hundred_millionths x.perihelion;
      node = hundred_millionths x.node;
    }

abbrev pub c_elements : Result Elements Refusal → CElements
c_elements a = six_elements (status_of a) (elements_found a)

-- a place in counts, and a turned vector
abbrev pub three_counts : ℤ → Coordinates → CVector
three_counts s p = record { status = s; x = p.x; y = p.y; z = p.z }

abbrev pub c_counts : Result (ℤ × Coordinates) Refusal → CVector
c_counts a = three_counts (status_of a) (place_coordinates a)

abbrev pub c_vector : Result Coordinates Refusal → CVector
c_vector t = three_counts (status_of t) (turned_vector t)

-- a place in au
abbrev pub three_doubles : ℤ → PlaceInAu → CPlace
three_doubles s p = record { status = s; x = p.x; y = p.y; z = p.z }

abbrev pub c_place : Result PlaceInAu Refusal → CPlace
c_place a = three_doubles (status_of a) (au_place a)

-- a search's answer
abbrev pub searched : ℤ → ℤ → ℕ → CViewing
searched s minutes looked = record { status = s; minutes = minutes; looked = looked }

abbrev pub c_viewing : Search → CViewing
c_viewing a = searched (viewing_status a) (viewing_minute a) (viewing_looked a)
