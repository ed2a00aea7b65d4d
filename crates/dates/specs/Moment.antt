-- Document 01, "Counts used" and "Numbered refusals": a date's minute is tested against an interval of which both ends are
-- accepted. Refusal 1: the Julian date is not finite. Refusal 2: the minutes lie outside the interval.
use Rattle.std.specs.Prelude.{Bool, true, false, ℤ, pos, ◌+ℤ◌, Err, None, Ok, Option, Result, Some}
use Rattle.integers.specs.Range.{FromTo, is_from_to}
use Rattle.refusals.specs.declared.Refusal.TheVariants.{NotFinite, OutsideInterval}
use Rattle.dates.specs.declared.Interval.{Interval}
use Rattle.refusals.specs.declared.Refusal.{Refusal}

-- m is a minute of the interval, "both accepted"; and the test of it
abbrev pub Covers : Interval → ℤ → Type 0
Covers interval m = FromTo interval.first interval.last m

abbrev pub covers : Interval → ℤ → Bool
covers interval m = is_from_to interval.first interval.last m

-- the minute m, tested against an interval
abbrev pub tested_if : (covered : Bool) → ℤ → Result ℤ Refusal
tested_if true m = Ok m
tested_if false m = Err OutsideInterval

unfoldable pub tested : Interval → ℤ → Result ℤ Refusal
tested interval m = tested_if (covers interval m) m

-- a minute and an offset: "sums taken exactly (with a start that is not finite every row has status 1)"
unfoldable pub moment_at : Interval → Option ℤ → ℤ → Result ℤ Refusal
moment_at interval None offset = Err NotFinite
moment_at interval (Some m) offset = tested interval (m +ℤ offset)

-- refusal 10: a step between dates that is "not 1 to 1,000,000" is refused
unfoldable pub is_step : ℤ → Bool
is_step step = is_from_to (pos 1) (pos 1000000) step

-- the minute of a moment, zero where it is not accepted
abbrev pub moment_minute : Result ℤ Refusal → ℤ
moment_minute (Ok m) = m
moment_minute (Err r) = pos 0
