-- Bodies by number, "bodies 1 to 9"; body 3 is the Earth-Moon barycentre. Refusal 3: "body not 1 to 9".
use Rattle.std.specs.Prelude.{Bool, true, false, List, [], ◌∷◌, ◌-◌, ℤ, pos, nat_abs, get_or, Result, Ok, Err}
use Rattle.refusals.specs.declared.Refusal.{Refusal}
use Rattle.refusals.specs.declared.Refusal.TheVariants.{NoSuchBody}
use Rattle.tables.specs.declared.Body.{Body}
use Rattle.tables.specs.declared.Body.TheVariants.{Mercury, Venus, Earth, Mars, Jupiter, Saturn, Uranus, Neptune, Pluto}
use Rattle.tables.specs.Table.{is_body}

abbrev pub body_number : Body → ℤ
body_number Mercury = pos 1
body_number Venus = pos 2
body_number Earth = pos 3
body_number Mars = pos 4
body_number Jupiter = pos 5
body_number Saturn = pos 6
body_number Uranus = pos 7
body_number Neptune = pos 8
body_number Pluto = pos 9

abbrev pub bodies : List Body
bodies = Mercury ∷ Venus ∷ Earth ∷ Mars ∷ Jupiter ∷ Saturn ∷ Uranus ∷ Neptune ∷ Pluto ∷ []

abbrev pub body_if : (is_body : Bool) → ℤ → Result Body Refusal
body_if true n = Ok (get_or bodies (nat_abs n - 1) Mercury)
body_if false n = Err NoSuchBody

-- the body of a number
unfoldable pub body_of : ℤ → Result Body Refusal
body_of n = body_if (is_body n) n
