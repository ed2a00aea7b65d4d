-- Document 02, Item 3, "Viewing nights": which of the dates start, start + step, and so on is an opposition or an inferior conjunction.
use Rattle.std.specs.Prelude.{Bool, false, ◌&&◌, ◌||◌, List, ℕ, zero, suc, ℤ, pos, ◌+ℤ◌, ◌-ℤ◌, ◌*ℤ◌}
use Rattle.std.specs.Int.Signed.{lt_z}
use Rattle.integers.specs.Sign.{same, opposite_signs}
use Rattle.integers.specs.Triple.{at}
use Rattle.places.specs.Answer.{hae_at, earth_at}
use Rattle.viewing.specs.declared.Aspect.{Aspect}

-- "planet and Earth, seen from the Sun in the HAE plane": the dot product and the cross product of their x and y
abbrev pub plane_dot : List ℤ → List ℤ → ℤ
plane_dot p e = at p 0 *ℤ at e 0 +ℤ at p 1 *ℤ at e 1

abbrev pub plane_cross : List ℤ → List ℤ → ℤ
plane_cross p e = at p 0 *ℤ at e 1 -ℤ at p 1 *ℤ at e 0

-- both, of a body and the Earth on minute m
unfoldable pub aspect_at : (table body : ℤ) → ℤ → Aspect
aspect_at table body m = record { dot = plane_dot (hae_at table body m) (earth_at table m); cross = plane_cross (hae_at table body m) (earth_at table m) }

-- "a positive dot product and a cross product that is zero or has the opposite sign from the date before"
abbrev pub hit_if : (changed : Bool) → Aspect → Bool
hit_if changed a = lt_z (pos 0) a.dot && (same a.cross (pos 0) || changed)

-- the minute of date k, counted from 0: "a start, a step as for sheets", sums taken exactly
abbrev pub minute_at : (first step : ℤ) → ℕ → ℤ
minute_at first step k = first +ℤ step *ℤ pos k

-- whether its cross product "has the opposite sign from the date before (the first date has none before it)"
abbrev pub changed_at : (table body first step : ℤ) → ℕ → Bool
changed_at table body first step zero = false
changed_at table body first step (suc k) = opposite_signs (aspect_at table body (minute_at first step (suc k))).cross (aspect_at table body (minute_at first step k)).cross

-- whether it is a hit
unfoldable pub is_hit : (table body first step : ℤ) → ℕ → Bool
is_hit table body first step k = hit_if (changed_at table body first step k) (aspect_at table body (minute_at first step k))
