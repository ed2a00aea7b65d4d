-- Document 02, Item 3, "Viewing nights": the answer to a search. "The answer carries the date and how many dates were looked at"; refusals 10,
-- 1, 11, 2, 3 and 12 in that order.
use Rattle.std.specs.Prelude.{Bool, true, false, not, ◌&&◌, ℕ, zero, suc, ℤ, pos, nat_abs, ◌-ℤ◌, ◌*ℤ◌, Result, Ok, Err}
use Rattle.integers.specs.First.{first_picked}
use Rattle.integers.specs.Range.{is_from_to}
use Rattle.integers.specs.Sign.{same}
use Rattle.refusals.specs.declared.Refusal.{Refusal}
use Rattle.refusals.specs.declared.Refusal.TheVariants.{NoSuchBody, BadCount, NoSuchDate}
use Rattle.refusals.specs.Number.{status_of}
use Rattle.dates.specs.declared.Date.{Date}
use Rattle.dates.specs.Moment.{is_step}
use Rattle.tables.specs.Table.{is_body, moment_after}
use Rattle.viewing.specs.declared.Search.{Search}
use Rattle.viewing.specs.Hit.{minute_at, is_hit}

-- "10 for a bad step or count": "a step as for sheets and a count of 1 to 4,000 dates"
unfoldable pub is_search : (step count : ℤ) → Bool
is_search step count = is_step step && is_from_to (pos 1) (pos 4000) count

-- "then 1, 11, 2 if the span's first or last date is outside": the moment of the first date, if the last one is accepted too
abbrev pub span_of : (first last : Result ℤ Refusal) → Result ℤ Refusal
span_of (Err r) last = Err r
span_of (Ok m) (Err r) = Err r
span_of (Ok m) (Ok l) = Ok m

-- the last date is start + (count - 1)·step
unfoldable pub span_moment : Date → (table step count : ℤ) → Result ℤ Refusal
span_moment start table step count = span_of (moment_after start table (pos 0)) (moment_after start table (step *ℤ (count -ℤ pos 1)))

-- "3 also for body 3"
unfoldable pub is_planet : ℤ → Bool
is_planet body = is_body body && not (same body (pos 3))

-- a search that ended with this date or this refusal, after so many dates were looked at
abbrev pub ended : (found : Result ℤ Refusal) → (looked : ℕ) → Search
ended found looked = record { looked = looked; found = found }

-- by the place of the first hit, 0 where there is none: "the place of the hit counted from 1, or the whole count when there is none"; "12, no
-- such date in the span, last"
abbrev pub found_at : (first step : ℤ) → (count place : ℕ) → Search
found_at first step count zero = ended (Err NoSuchDate) count
found_at first step count (suc k) = ended (Ok (minute_at first step k)) (suc k)

-- on a span that is accepted
abbrev pub viewing_if : (is_planet : Bool) → (table body first step : ℤ) → ℕ → Search
viewing_if false table body first step count = ended (Err NoSuchBody) 0
viewing_if true table body first step count = found_at first step count (first_picked (is_hit table body first step) count)

abbrev pub viewing_on : Result ℤ Refusal → (table body step : ℤ) → ℕ → Search
viewing_on (Err r) table body step count = ended (Err r) 0
viewing_on (Ok first) table body step count = viewing_if (is_planet body) table body first step count

abbrev pub viewing_by : (is_search : Bool) → Result ℤ Refusal → (table body step : ℤ) → ℕ → Search
viewing_by false span table body step count = ended (Err BadCount) 0
viewing_by true span table body step count = viewing_on span table body step count

-- the answer to a start, a table, a step, a count and a body
unfoldable pub viewing_answer : Date → (table step count body : ℤ) → Search
viewing_answer start table step count body = viewing_by (is_search step count) (span_moment start table step count) table body step (nat_abs count)

-- the number of what a search ended with, and its minute: "A refusal's date is 0"
abbrev pub found_minute : Result ℤ Refusal → ℤ
found_minute (Ok m) = m
found_minute (Err r) = pos 0

-- the number of an answer, its minute and how many dates were looked at: 0 with a refusal, "but for 12"
abbrev pub viewing_status : Search → ℤ
viewing_status s = status_of s.found

abbrev pub viewing_minute : Search → ℤ
viewing_minute s = found_minute s.found

abbrev pub viewing_looked : Search → ℕ
viewing_looked s = s.looked
