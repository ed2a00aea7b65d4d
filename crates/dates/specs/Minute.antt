-- Document 01, "Counts used": "A date is given either as a Julian date, a double, or as whole minutes. A Julian date d
-- becomes floor((d - 2451545)·1440 + 1/2), exactly". Time is counted in minutes from JD 2451545.0.
use Rattle.std.specs.Prelude.{Bool, ℕ, ◌*◌, ℤ, pos, ◌-ℤ◌, ◌*ℤ◌, Float, None, Option, Some}
use Rattle.std.specs.Float.{nan, inf, fin}
use Rattle.std.specs.Float.Ieee.{up, down}
use Rattle.integers.specs.Floor.{floor_div, rounded}
use Rattle.integers.specs.Sign.{signed}
use Rattle.dates.specs.declared.Date.{Date}
use Rattle.dates.specs.declared.Date.TheVariants.{Julian, Minutes}

-- floor((d - 2451545)·1440 + 1/2) of d = ±n / k
unfoldable pub julian_minute : (negative : Bool) → ℕ → ℕ → ℤ
julian_minute negative n k = rounded ((signed negative n -ℤ pos 2451545 *ℤ pos k) *ℤ pos 1440) k

-- a finite double is ±m·2^e, and 2^e is the fraction up e / down e
unfoldable pub minute_of_julian : Float → Option ℤ
minute_of_julian nan = None
minute_of_julian (inf negative) = None
minute_of_julian (fin negative m e) = Some (julian_minute negative (m * up e) (down e))

-- the minute of a date of either form, which only a Julian date that is not finite lacks; whole minutes are themselves
abbrev pub minute_of : Date → Option ℤ
minute_of (Julian d) = minute_of_julian d
minute_of (Minutes m) = Some m

-- "A century is 52,596,000 minutes"; step 1: floor(rate·m / 52,596,000), what a rate a century comes to in m minutes
unfoldable pub drift_of : ℤ → ℤ → ℤ
drift_of rate m = floor_div (rate *ℤ m) 52596000
