-- Document 01, "Checked examples": those of RTN and of refusal 5 that have no star (the starred ones stand in `places`), and that GEI
-- goes by the obliquity that decides and not by the printed one; and what 02, Item 4 changed. By computation on the definitions.
use Rattle.std.specs.Prelude.{◌≡◌, refl, List, [], ◌∷◌, ℤ, pos, negsuc, Ok, Err}
use Rattle.integers.specs.Triple.{at, zeros}
use Rattle.integers.specs.Floor.{end_turn}
use Rattle.integers.specs.Root.{root_from, root_of}
use Rattle.angles.specs.Unit.{one_turn}
use Rattle.angles.specs.Entry.{factorial, part, whole, term, plus_terms, minus_terms, entry}
use Rattle.angles.specs.Sine.{quarter_sine, half_sine, sine_of, cosine_of}
use Rattle.refusals.specs.declared.Refusal.TheVariants.{TooFar, NoDirection}
use Rattle.vectors.specs.Vector.{row_at, applied, length_of, unit_of, cross_of}
use Rattle.frames.specs.Frame.{gei_rows, hci_rows, solar_axis, rotation_of, hae_turned, turned_between}
use Rattle.frames.specs.Answer.{as_coordinates}
use Rattle.frames.specs.Rtn.{rtn_rows, rtn_turned, to_rtn, from_rtn}
use Rattle.refusals.specs.Number.{status_of}

-- (x, 0, 0)
abbrev along : ℤ → List ℤ
along x = x ∷ pos 0 ∷ pos 0 ∷ []

pub radial_comes_back : from_rtn (along (pos 10000000)) (along (pos 10000000)) ≡ Ok (as_coordinates (along (pos 10000000)))
unfolding from_rtn rtn_turned rtn_rows applied end_turn length_of unit_of cross_of solar_axis hci_rows root_of root_from cosine_of sine_of one_turn half_sine quarter_sine entry plus_terms minus_terms term whole part factorial
radial_comes_back = refl

pub no_place : to_rtn zeros (along (pos 10000000)) ≡ Err NoDirection
unfolding to_rtn rtn_turned rtn_rows applied end_turn length_of unit_of cross_of solar_axis hci_rows root_of root_from cosine_of sine_of one_turn half_sine quarter_sine entry plus_terms minus_terms term whole part factorial
no_place = refl

pub limit_accepted : status_of (to_rtn (along (pos 10000000)) (along (pos 500000000))) ≡ pos 0
unfolding to_rtn rtn_turned rtn_rows applied end_turn length_of unit_of cross_of solar_axis hci_rows root_of root_from cosine_of sine_of one_turn half_sine quarter_sine entry plus_terms minus_terms term whole part factorial
limit_accepted = refl

pub beyond_refused : to_rtn (along (pos 10000000)) (along (pos 500000001)) ≡ Err TooFar
unfolding to_rtn rtn_turned
beyond_refused = refl

pub beyond_below_refused : to_rtn (along (pos 10000000)) (along (negsuc 500000000)) ≡ Err TooFar
unfolding to_rtn rtn_turned
beyond_below_refused = refl

-- one entry of GEI: the cosine of 23,439,291, and not that of 23°43'28"
pub obliquity_decides : at (row_at gei_rows 1) 1 ≡ pos 917481729
unfolding gei_rows cosine_of sine_of one_turn half_sine quarter_sine entry plus_terms minus_terms term whole part factorial
obliquity_decides = refl

pub printed_obliquity : cosine_of (pos 23724444) ≡ pos 915490770
unfolding cosine_of sine_of one_turn half_sine quarter_sine entry plus_terms minus_terms term whole part factorial
printed_obliquity = refl

-- 02, Item 4: half a unit, less than half, minus half a unit, and minus one and a half
pub halves_go_away_from_zero : (end_turn (pos 500000000) ≡ pos 1) × ((end_turn (pos 499999999) ≡ pos 0) × ((end_turn (negsuc 499999999) ≡ negsuc 0) × (end_turn (negsuc 1499999999) ≡ negsuc 1)))
unfolding end_turn
halves_go_away_from_zero = (refl, (refl, (refl, refl)))

-- (0, 1, 0) and its opposite in GEI. By the floor they were (0, 0, 0) and (0, -1, -1)
abbrev along_y : ℤ → List ℤ
along_y y = pos 0 ∷ y ∷ pos 0 ∷ []

pub opposites_turn_into_opposites : (turned_between (pos 1) (pos 2) zeros (along_y (pos 1)) ≡ along_y (pos 1)) × (turned_between (pos 1) (pos 2) zeros (along_y (negsuc 0)) ≡ along_y (negsuc 0))
unfolding turned_between hae_turned rotation_of gei_rows applied end_turn cosine_of sine_of one_turn half_sine quarter_sine entry plus_terms minus_terms term whole part factorial
opposites_turn_into_opposites = (refl, refl)
