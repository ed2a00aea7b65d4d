-- The answers that document 01 promises for a date, each by a table (02, Item 1): the place of a body in a frame, refusals 1, 11, 2, 3, 4 in
-- order; a vector turned from a frame to a frame, refusals 1, 11, 2, 4, 5 in order; and a place for the projector in au.
use Rattle.std.specs.Prelude.{Bool, true, false, ◌&&◌, List, ℤ, pos, Err, Ok, Result}
use Rattle.integers.specs.Triple.{zeros}
use Rattle.refusals.specs.declared.Refusal.TheVariants.{NoSuchBody, NoSuchFrame, TooFar}
use Rattle.dates.specs.declared.Date.{Date}
use Rattle.tables.specs.Table.{is_body, table_row, table_terms, moment_after}
use Rattle.orbits.specs.Place.{place_at}
use Rattle.frames.specs.declared.Coordinates.{Coordinates}
use Rattle.frames.specs.Frame.{is_frame, turned_between}
use Rattle.frames.specs.Answer.{in_limits, as_coordinates}
use Rattle.projector.specs.declared.PlaceInAu.{PlaceInAu}
use Rattle.projector.specs.Au.{in_au, nowhere}
use Rattle.refusals.specs.declared.Refusal.{Refusal}

-- the place in HAE of a body on minute m, and the Earth's, "body 3 in frame 1 on the date given"
abbrev pub hae_at : (table body : ℤ) → ℤ → List ℤ
hae_at table body m = place_at (table_row table body) (table_terms table body) m

abbrev pub earth_at : (table : ℤ) → ℤ → List ℤ
earth_at table m = hae_at table (pos 3) m

-- the minute and the place of a body in a frame on an accepted minute: refusal 3, then 4
abbrev pub place_if : (is_body is_frame : Bool) → (table body frame : ℤ) → ℤ → Result (ℤ × Coordinates) Refusal
place_if false f table body frame m = Err NoSuchBody
place_if true false table body frame m = Err NoSuchFrame
place_if true true table body frame m = Ok (m, as_coordinates (turned_between (pos 1) frame (earth_at table m) (hae_at table body m)))

abbrev pub place_on : Result ℤ Refusal → (table body frame : ℤ) → Result (ℤ × Coordinates) Refusal
place_on (Ok m) table body frame = place_if (is_body body) (is_frame frame) table body frame m
place_on (Err r) table body frame = Err r

-- the answer for a date and an offset in minutes, a table, a body and a frame: refusals 1, 11 and 2 come first
abbrev pub place_after : Date → (table offset body frame : ℤ) → Result (ℤ × Coordinates) Refusal
place_after date table offset body frame = place_on (moment_after date table offset) table body frame

-- the answer for a date, a table, a body and a frame
abbrev pub place_answer : Date → (table body frame : ℤ) → Result (ℤ × Coordinates) Refusal
place_answer date table body frame = place_after date table (pos 0) body frame

-- the place of an answer, zeros where there is none
abbrev pub place_coordinates : Result (ℤ × Coordinates) Refusal → Coordinates
place_coordinates (Ok found) = found.1
place_coordinates (Err r) = as_coordinates zeros

-- a vector turned on an accepted minute: refusal 4, then 5
abbrev pub turn_if : (areFrames isNear : Bool) → (table f g : ℤ) → List ℤ → ℤ → Result Coordinates Refusal
turn_if false r table f g v m = Err NoSuchFrame
turn_if true false table f g v m = Err TooFar
turn_if true true table f g v m = Ok (as_coordinates (turned_between f g (earth_at table m) v))

abbrev pub turn_on : Result ℤ Refusal → (table f g : ℤ) → List ℤ → Result Coordinates Refusal
turn_on (Ok m) table f g v = turn_if (is_frame f && is_frame g) (in_limits v) table f g v m
turn_on (Err r) table f g v = Err r

-- the answer for a vector, a date, a table and two frames: the date is tested for every pair of frames
abbrev pub turn_answer : Date → (table f g : ℤ) → List ℤ → Result Coordinates Refusal
turn_answer date table f g v = turn_on (moment_after date table (pos 0)) table f g v

-- "A place for the projector is three doubles in au"; "A refused one is three zeros"
abbrev pub au_from : Result (ℤ × Coordinates) Refusal → Result PlaceInAu Refusal
au_from (Ok found) = let p = found.1 in Ok (in_au p.x p.y p.z)
au_from (Err r) = Err r

abbrev pub au_answer : Date → (table body frame : ℤ) → Result PlaceInAu Refusal
au_answer date table body frame = au_from (place_answer date table body frame)

abbrev pub au_place : Result PlaceInAu Refusal → PlaceInAu
au_place (Ok p) = p
au_place (Err r) = nowhere
