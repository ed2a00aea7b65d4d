-- What is given and what is answered: how far a given vector or place may reach, and a turned vector or its refusal.
use Rattle.std.specs.Prelude.{Bool, ◌&&◌, List, ℤ, pos, negsuc, neg_ℤ, Result, Ok, Err}
use Rattle.integers.specs.Range.{is_from_to}
use Rattle.integers.specs.Triple.{at, zeros}
use Rattle.frames.specs.declared.Coordinates.{Coordinates}
use Rattle.refusals.specs.declared.Refusal.{Refusal}

-- refusal 5: "a part of a given vector or place beyond ±500,000,000"
abbrev pub part_in_limits : ℤ → Bool
part_in_limits z = is_from_to (negsuc 499999999) (pos 500000000) z

abbrev pub in_limits : List ℤ → Bool
in_limits v = part_in_limits (at v 0) && (part_in_limits (at v 1) && part_in_limits (at v 2))

abbrev pub as_coordinates : List ℤ → Coordinates
as_coordinates v = record { x = at v 0; y = at v 1; z = at v 2 }

-- the vector of an answer, zeros where there is none
abbrev pub turned_vector : Result Coordinates Refusal → Coordinates
turned_vector (Ok v) = v
turned_vector (Err r) = as_coordinates zeros

-- "opposite vectors give opposite results" (02, Item 4): the opposite coordinates, and the answer that has them; a refusal stays as it is
abbrev pub opposite_coordinates : Coordinates → Coordinates
opposite_coordinates p = record { x = neg_ℤ p.x; y = neg_ℤ p.y; z = neg_ℤ p.z }

abbrev pub opposite_turned : Result Coordinates Refusal → Result Coordinates Refusal
opposite_turned (Ok p) = Ok (opposite_coordinates p)
opposite_turned (Err r) = Err r
