-- Mean anomalies by Table 2 (02, Item 1) at minute 0 and at both ends of its interval, each beside the number of the exact program
-- (reference/exact.py), by computation on the definitions. Document 01's own examples stand in `places`.
use Rattle.std.specs.Prelude.{List, [], ◌∷◌, map, ◌≡◌, refl, ℤ, pos, negsuc}
use Rattle.angles.specs.Unit.{one_turn}
use Rattle.angles.specs.Entry.{factorial, part, whole, term, plus_terms, minus_terms, entry}
use Rattle.angles.specs.Sine.{quarter_sine, half_sine, sine_of, cosine_of}
use Rattle.dates.specs.Minute.{drift_of}
use Rattle.tables.specs.Table.{table2, terms2, table_row, table_terms}
use Rattle.orbits.specs.Elements.{square_term, periodic_terms, mean_at}

-- a body, a minute and M
abbrev pub means : List (ℤ × ℤ × ℤ)
means =
    -- the Earth
    (pos 3, pos 0, negsuc 2463143)
    ∷ (pos 3, negsuc 2629254959, pos 57831078)
    ∷ (pos 3, pos 525949200, negsuc 19304039)
    -- Jupiter
    ∷ (pos 5, pos 0, pos 20120479)
    ∷ (pos 5, negsuc 2629254959, negsuc 124600142)
    ∷ (pos 5, pos 525949200, pos 126554984)
    -- Saturn
    ∷ (pos 6, pos 0, negsuc 42919992)
    ∷ (pos 6, negsuc 2629254959, pos 91147265)
    ∷ (pos 6, pos 525949200, negsuc 67054006)
    -- Uranus
    ∷ (pos 7, pos 0, pos 140791403)
    ∷ (pos 7, negsuc 2629254959, negsuc 33424038)
    ∷ (pos 7, pos 525949200, pos 105710975)
    -- Neptune
    ∷ (pos 8, pos 0, negsuc 101775231)
    ∷ (pos 8, negsuc 2629254959, pos 136686653)
    ∷ (pos 8, pos 525949200, negsuc 77936040)
    -- Pluto
    ∷ (pos 9, pos 0, pos 14868324)
    ∷ (pos 9, negsuc 2629254959, negsuc 74687985)
    ∷ (pos 9, pos 525949200, pos 25477011)
    ∷ []

pub means_by_table_2 : map (λ (e : ℤ × ℤ × ℤ). mean_at (table_row (pos 2) e.0) (table_terms (pos 2) e.0) e.1) means ≡ map (λ (e : ℤ × ℤ × ℤ). e.2) means
unfolding table_row table_terms table2 terms2 square_term periodic_terms drift_of cosine_of sine_of one_turn half_sine quarter_sine entry plus_terms minus_terms term whole part factorial
means_by_table_2 = refl
