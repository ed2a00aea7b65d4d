-- `in_plane` is step 4: the place in the plane of the orbit.
-- By what the calls ensure; the half-axis and the eccentricity are read back at each.
use mathlib.Core.Path.{◌≡◌, subst, subst₂, sym, ◌∙◌}
use Prim.Native.Nat.{◌≤◌}
use native.Mathlib.Omega.{arith}
use lib.IntN.{ℤ, pos, ◌-ℤ◌, ◌*ℤ◌}
use mir.Syntax.{w64}
use mir.Val.{to_z}
use Rattle.integers.specs.Range.{Within}
use Rattle.integers.specs.Floor.{floor_div, unit_product}
use Rattle.integers.proofs.Cast.{read, back, back_ok, of_nat, pos_fits}
use Rattle.integers.proofs.Ranges.{range_most}
use Rattle.angles.specs.Unit.{millionths}
use Rattle.angles.specs.Sine.{sine_of, cosine_of}
use Rattle.angles.proofs.Laws.{sine_small, cosine_small}
use Rattle.orbits.specs.Place.{minor_of, plane_x, plane_y}
use Rattle.orbits.specs.Range.{AxisFits}
use Rattle.orbits.specs.declared.InPlane.{InPlane}
use Rattle.orbits.proofs.Bounds.{minor_small}
use Rattle.orbits.proofs.in_plane.Goals as goal
use Rattle.orbits.proofs.in_plane.Goals.{After-cosine, After-minor_axis-f, After-sine, Start}

module _ (s : Start) where
  small : s.args.e ≤ 90000000
  small = range_most 0 (pos s.args.e) s.requires.elliptic

  a_is : read s.args.a ≡ s.args.a
  a_is = back s.args.a s.ranges.a

  e_is : to_z w64 s.args.e ≡ pos s.args.e
  e_is = of_nat s.args.e (omega (arith, small))

pub minor_axis-f-requires : goal.minor_axis-f-requires
minor_axis-f-requires c = small c

minor_is : (c : After-minor_axis-f) → read c.minor_axis-f.result ≡ minor_of (pos c.before.args.e)
minor_is c = back_ok c.minor_axis-f.result c.minor_axis-f.type_inv ∙ c.minor_axis-f.ensures

pub overflow_cast-e : goal.overflow_cast-e
overflow_cast-e c = pos_fits c.before.args.e (omega (arith, small c.before))

cosine_is : (c : After-cosine) → read c.cosine.result ≡ cosine_of (millionths c.before.before.args.anomaly)
cosine_is c = back_ok c.cosine.result c.cosine.type_inv ∙ c.cosine.ensures

pub plane_x-requires : goal.plane_x-requires
plane_x-requires c =
    let s = c.before.before in
    record { axis_fits = subst₂ AxisFits (sym (a_is s)) (sym (e_is s)) s.requires; within = subst (Within 1000000000) (sym (cosine_is c)) (cosine_small (millionths s.args.anomaly)) }

sine_is : (c : After-sine) → read c.sine.result ≡ sine_of (millionths c.before.before.before.before.args.anomaly)
sine_is c = back_ok c.sine.result c.sine.type_inv ∙ c.sine.ensures

pub plane_y-requires : goal.plane_y-requires
plane_y-requires c =
    let s = c.before.before.before.before in
    let axis : Within 4500000000 s.args.a = record { within = s.requires.axis } in record { within = subst (Within 4500000000) (sym (a_is s)) axis; within_2 = subst (Within 1000000000) (sym (minor_is c.before.before.before)) (minor_small (pos s.args.e) s.requires.elliptic); within_3 = subst (Within 1000000000) (sym (sine_is c)) (sine_small (millionths s.args.anomaly)) }

abbrev two : ℤ → ℤ → InPlane
two x y = record { x = x; y = y }

pub returns : goal.returns
unfolding plane_x plane_y
returns c =
    let d = c.before in
    let x = d.before in
    let m = x.before.before in
    let s = m.before in
    λ i.
    two
    ((back_ok x.plane_x.result x.plane_x.type_inv ∙ x.plane_x.ensures ∙ (λ j. floor_div (a_is s j *ℤ (cosine_is x.before j -ℤ pos 10 *ℤ e_is s j)) 10000000000)) i)
    ((back_ok c.plane_y.result c.plane_y.type_inv ∙ c.plane_y.ensures ∙ (λ j. unit_product (floor_div (a_is s j *ℤ minor_is m j) 10000000000) (sine_is d j))) i)
