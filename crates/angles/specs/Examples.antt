-- The two ends of one turn (document 01, step 2), by computation on the definition.
use Rattle.std.specs.Prelude.{◌≡◌, refl, pos, negsuc}
use Rattle.angles.specs.Unit.{one_turn}

pub turn_is_open_above : one_turn (pos 180000000) ≡ negsuc 179999999
unfolding one_turn
turn_is_open_above = refl

pub turn_is_closed_below : one_turn (negsuc 179999999) ≡ negsuc 179999999
unfolding one_turn
turn_is_closed_below = refl
