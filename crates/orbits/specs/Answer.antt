-- The answers to a date, a table and a body: refusals 1, 11, 2 and 3 in that order (01, "Numbered refusals"; 02, Item 1), else the elements
-- or the mean anomaly.
use Rattle.std.specs.Prelude.{Bool, true, false, ℤ, pos, Err, Ok, Result}
use Rattle.refusals.specs.declared.Refusal.TheVariants.{NoSuchBody}
use Rattle.angles.specs.Unit.{angle_of, element_of}
use Rattle.dates.specs.declared.Date.{Date}
use Rattle.tables.specs.Table.{is_body, table_row, table_terms, moment_after}
use Rattle.orbits.specs.declared.Elements.{Elements}
use Rattle.orbits.specs.Elements.{elements_at, mean_at}
use Rattle.angles.specs.declared.Angle.{Angle}
use Rattle.refusals.specs.declared.Refusal.{Refusal}

-- the moment of a date for a body: refusal 3, "body not 1 to 9", comes after those of the date
abbrev pub body_if : (is_body : Bool) → Result ℤ Refusal → Result ℤ Refusal
body_if true moment = moment
body_if false (Ok m) = Err NoSuchBody
body_if false (Err r) = Err r

unfoldable pub body_moment : Date → (table body : ℤ) → Result ℤ Refusal
body_moment date table body = body_if (is_body body) (moment_after date table (pos 0))

-- the six elements of a body on a date by a table
abbrev pub elements_on : Result ℤ Refusal → (table body : ℤ) → Result Elements Refusal
elements_on (Ok m) table body = Ok (elements_at (table_row table body) m)
elements_on (Err r) table body = Err r

abbrev pub elements_answer : Date → (table body : ℤ) → Result Elements Refusal
elements_answer date table body = elements_on (body_moment date table body) table body

-- its mean anomaly
abbrev pub mean_on : Result ℤ Refusal → (table body : ℤ) → Result Angle Refusal
mean_on (Ok m) table body = Ok (angle_of (mean_at (table_row table body) (table_terms table body) m))
mean_on (Err r) table body = Err r

abbrev pub mean_answer : Date → (table body : ℤ) → Result Angle Refusal
mean_answer date table body = mean_on (body_moment date table body) table body

-- the elements of an answer, zeros where there are none
abbrev pub no_elements : Elements
no_elements = let z = element_of (pos 0) in record { a = z; e = z; inclination = z; longitude = z; perihelion = z; node = z }

abbrev pub elements_found : Result Elements Refusal → Elements
elements_found (Ok x) = x
elements_found (Err r) = no_elements
