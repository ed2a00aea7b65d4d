-- `aspect_at` is the aspect of a body at a moment.
-- The two places are the definition's, and their parts are at most 10^9.
use mathlib.Core.Path.{subst⁻¹, ◌∙◌}
use lib.IntN.{pos}
use Rattle.integers.specs.Triple.{PartsWithin}
use Rattle.integers.proofs.Cast.{back_ok}
use Rattle.tables.specs.Bodies.{body_number}
use Rattle.tables.proofs.Bodies.{body_known}
use Rattle.orbits.proofs.Rows.{table_place_within}
use Rattle.places.proofs.Earth.{earth_body}
use Rattle.viewing.specs.Hit.{plane_dot, plane_cross, aspect_at}
use Rattle.viewing.proofs.aspect_at.Goals as goal
use Rattle.viewing.proofs.aspect_at.Goals.{After-place_at-earth}

both : (c : After-place_at-earth) → PartsWithin 1000000000 c.place_at-planet.result × PartsWithin 1000000000 c.place_at-earth.result
both c =
    let m = c.args.moment in
    let body = c.args.body in (
      subst⁻¹ (PartsWithin 1000000000) c.place_at-planet.ensures (table_place_within m.table (body_number body) m.minute (body_known body) m.on_table),
      subst⁻¹ (PartsWithin 1000000000) c.place_at-earth.ensures (table_place_within m.table (pos 3) m.minute earth_body m.on_table),
    )

pub plane_dot-requires : goal.plane_dot-requires
plane_dot-requires c = both (goal.at.plane_dot-requires c).After-place_at-earth

pub plane_cross-requires : goal.plane_cross-requires
plane_cross-requires c = both (goal.at.plane_cross-requires c).After-place_at-earth

pub returns : goal.returns
unfolding aspect_at
returns c =
    let dot = back_ok c.plane_dot.result c.plane_dot.type_inv ∙ c.plane_dot.ensures ∙ (λ i. plane_dot (c.place_at-planet.ensures i) (c.place_at-earth.ensures i)) in
    let cross = back_ok c.plane_cross.result c.plane_cross.type_inv ∙ c.plane_cross.ensures ∙ (λ i. plane_cross (c.place_at-planet.ensures i) (c.place_at-earth.ensures i)) in
    λ i. record { dot = dot i; cross = cross i }
