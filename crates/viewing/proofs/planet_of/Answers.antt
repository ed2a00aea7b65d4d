-- `planet_of` is the planet of a number, or refusal 3 where the number is no body's or the Earth's.
-- The number of a body that is not the Earth is not 3.
use denote.Enum.Bare.{sameb}
use mathlib.Core.Bool.{Bool, true, not, ◌&&◌}
use mathlib.Core.Path.{◌≡◌, refl, sym, ap, ◌∙◌}
use lib.IntN.{ℤ, pos}
use Rattle.integers.specs.Sign.{same}
use Rattle.integers.proofs.Cast.{back}
use Rattle.refusals.proofs.Handed.{handed_on}
use Rattle.tables.specs.contracts.Body.{the_type}
use Rattle.tables.specs.declared.Body.{Body}
use Rattle.tables.specs.declared.Body.TheVariants.{Mercury, Venus, Earth, Mars, Jupiter, Saturn, Uranus, Neptune, Pluto}
use Rattle.tables.specs.Table.{is_body}
use Rattle.tables.specs.Bodies.{body_number, body_of}
use Rattle.tables.proofs.Bodies.{body_is, no_body_is}
use Rattle.viewing.specs.Viewing.{is_planet}
use Rattle.viewing.proofs.planet_of.Goals as goal
use Rattle.viewing.proofs.planet_of.Goals.{After-eq, In_ok-body}

-- a body is the Earth where its number is 3
earth_told : (body : Body) → same (body_number body) (pos 3) ≡ sameb the_type body Earth
earth_told Mercury = refl
earth_told Venus = refl
earth_told Earth = refl
earth_told Mars = refl
earth_told Jupiter = refl
earth_told Saturn = refl
earth_told Uranus = refl
earth_told Neptune = refl
earth_told Pluto = refl

found : (c : In_ok-body) → (body_number c.in_ok-body.body ≡ c.args.number) × (is_body c.args.number ≡ true)
found c = body_is c.args.number c.in_ok-body.body (sym (c.in_ok-body.ensures ∙ ap body_of (back c.args.number c.ranges.number)))

-- the definition by the two tests
by : (number : ℤ) {b t : Bool} → is_body number ≡ b → same number (pos 3) ≡ t → is_planet number ≡ b && not t
unfolding is_planet
by number e f i = e i && not (f i)

pub returns-in_err-body : goal.returns-in_err-body
returns-in_err-body c =
    let none = no_body_is c.args.number c.in_err-body.field-0.0 (sym (c.in_err-body.ensures ∙ ap body_of (back c.args.number c.ranges.number))) in
    rw (handed_on c.from_residual.ensures.1) (none.0, by c.args.number none.1 refl)

-- the code's test is whether the number is 3
tested : (c : After-eq) → same c.args.number (pos 3) ≡ c.eq.result
tested c =
    let f = found (goal.at.After-eq c).In_ok-body in
    ap (λ (n : ℤ). same n (pos 3)) (sym f.0) ∙ earth_told c.in_ok-body.body ∙ sym c.eq.ensures

pub returns-then-eq : goal.returns-then-eq
returns-then-eq c =
    let at = goal.at.returns-then-eq c in
    (refl, by c.args.number (found at.In_ok-body).1 (tested at.After-eq ∙ c.if-eq.true))

pub returns : goal.returns
returns c =
    let at = goal.at.returns c in
    let f = found at.In_ok-body in
    (f.0, by c.args.number f.1 (tested at.After-eq ∙ c.if-eq.false))
