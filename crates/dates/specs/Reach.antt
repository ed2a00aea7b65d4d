-- Terms of inner contracts: what the code carries of a minute, and what the functions of `dates` ask of their arguments.
use Rattle.std.specs.Prelude.{cond, ℕ, ◌^◌, ◌≤◌, ◌<◌, ℤ, pos, negsuc, None, Option, Some}
use Rattle.std.specs.Int.Signed.{lt_z}
use Rattle.integers.specs.Range.{Within}
use Rattle.dates.specs.declared.Interval.{Interval}

-- a number beyond 10^14 either way, put on that end
abbrev pub clamped : ℤ → ℤ
clamped z = cond (lt_z z (negsuc 99999999999999)) (negsuc 99999999999999) (cond (lt_z (pos 100000000000000) z) (pos 100000000000000) z)

-- a minute as the code carries it: no interval reaches as far as 10^14 minutes, so that no test tells the difference (`held_enough`)
abbrev pub held : Option ℤ → Option ℤ
held None = None
held (Some m) = Some (clamped m)

-- such a minute
pub data Held : Option ℤ → Type 0 where
  no_minute : Held None
  near_minute : {m : ℤ} → Within 100000000000000 m → Held (Some m)

-- an interval and an offset: none beyond 10^13
pub record InReach (interval : Interval) (offset : ℤ) : Type 0 where
  pub first_near : Within 10000000000000 interval.first
  pub last_near : Within 10000000000000 interval.last
  pub offset_near : Within 10000000000000 offset

-- the fields of a double below 2^48 days either way: its exponent's, and its digits below the leading one
pub record NearFields (x t : ℕ) : Type 0 where
  pub near : x ≤ 1070
  pub digits : t < 2 ^ 52

-- a number up to 45·2^53 either way, to be rounded over 2^v
pub record RoundFits (a : ℤ) (v : ℕ) : Type 0 where
  pub number : Within 405323966463344640 a
  pub power : v ≤ 59

-- a rate a century and a minute of which the drift overflows nowhere: 50 centuries either way
pub record DriftFits (rate m : ℤ) : Type 0 where
  pub rate_fits : Within 100000000000000 rate
  pub minute_fits : Within 2630000000 m
