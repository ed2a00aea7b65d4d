-- Doubles at the edges, each beside its minute, by computation on the definitions. A double is given by its bits. Document 01's own
-- examples stand in `places`.
use Rattle.std.specs.Prelude.{List, [], ◌∷◌, map, ◌≡◌, refl, ℕ, ℤ, pos, negsuc, Err, None, Ok, Option, Some}
use Rattle.std.specs.Float.{binary64}
use Rattle.std.specs.Float.Ieee.{of_bits}
use Rattle.refusals.specs.declared.Refusal.TheVariants.{OutsideInterval}
use Rattle.dates.specs.declared.Date.{Date}
use Rattle.dates.specs.declared.Date.TheVariants.{Julian}
use Rattle.dates.specs.declared.Interval.{Interval}
use Rattle.dates.specs.Minute.{minute_of, julian_minute, minute_of_julian}
use Rattle.dates.specs.Moment.{tested, moment_at}

abbrev pub jd : ℕ → Date
jd bits = Julian (of_bits binary64 bits)

abbrev pub exact_minutes : List (Date × Option ℤ)
exact_minutes =
    -- 0.0, -0.0 and the least double above 0
    (jd 0, Some (negsuc 3530224799))
    ∷ (jd 0x8000_0000_0000_0000, Some (negsuc 3530224799))
    ∷ (jd 1, Some (negsuc 3530224799))
    -- 1/2048, -1/2048 and -123456.789
    ∷ (jd 0x3f40_0000_0000_0000, Some (negsuc 3530224798))
    ∷ (jd 0xbf40_0000_0000_0000, Some (negsuc 3530224800))
    ∷ (jd 0xc0fe_240c_9fbe_76c9, Some (negsuc 3708002575))
    -- 2^60 and -2^60
    ∷ (jd 0x43b0_0000_0000_0000, Some (pos 1660206966630329420640))
    ∷ (jd 0xc3b0_0000_0000_0000, Some (negsuc 1660206966637389870239))
    -- 2469807.5003 and 2378496.4997, which round to Table 1's ends; 2469807.5004 and 2378496.4996, which do not
    ∷ (jd 0x4142_d7d7_c009_d495, Some (pos 26298000))
    ∷ (jd 0x4142_d7d7_c00d_1b71, Some (pos 26298001))
    ∷ (jd 0x4142_2580_3ff6_2b6b, Some (negsuc 105189839))
    ∷ (jd 0x4142_2580_3ff2_e48f, Some (negsuc 105189840))
    -- both infinities, and no number
    ∷ (jd 0x7ff0_0000_0000_0000, None)
    ∷ (jd 0xfff0_0000_0000_0000, None)
    ∷ (jd 0x7ff8_0000_0000_0000, None)
    ∷ []

pub exact_minutes_lem : map (λ (e : Date × Option ℤ). minute_of e.0) exact_minutes ≡ map (λ (e : Date × Option ℤ). e.1) exact_minutes
unfolding minute_of_julian julian_minute of_bits
exact_minutes_lem = refl

-- an offset is added exactly, also at the ends of 64 bits
abbrev pub ten_minutes : Interval
ten_minutes = record { first = pos 1; last = pos 10 }

pub offset_into_the_interval : moment_at ten_minutes (Some (pos 11)) (negsuc 0) ≡ Ok (pos 10)
unfolding moment_at tested
offset_into_the_interval = refl

pub offset_past_64_bits : moment_at ten_minutes (Some (pos 9223372036854775807)) (pos 1000000) ≡ Err OutsideInterval
unfolding moment_at tested
offset_past_64_bits = refl
