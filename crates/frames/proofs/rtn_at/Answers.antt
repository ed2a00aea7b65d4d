-- `rtn_at` takes lengths and cross products of small vectors only, so that none of them overflows.
-- R is the unit vector of the place, S×R is the definition's and T its unit vector, so the bounds of those hold.
use mathlib.Core.Path.{◌≡◌, subst, sym, ap, ◌∙◌}
use Prim.Native.Nat.{ℕ}
use Rattle.integers.specs.Triple.{PartsWithin}
use Rattle.vectors.specs.Vector.{length_of, over_length, unit_of, cross_of}
use Rattle.frames.specs.Frame.{axis_cross}
use Rattle.frames.proofs.Rows.{axis_small, unit_of_place, across_small, across_unit_small}
use Rattle.frames.proofs.rtn_at.Goals as goal
use Rattle.frames.proofs.rtn_at.Goals.{After-over_length-radial, After-cross-across, After-over_length}

-- R
radial_is : (c : After-over_length-radial) → c.over_length-radial.result ≡ unit_of c.args.r
unfolding unit_of
radial_is c = c.over_length-radial.ensures ∙ ap (λ (l : ℕ). over_length l c.args.r) c.length-l.ensures.value

radial_small : (c : After-over_length-radial) → PartsWithin 1000000000 c.over_length-radial.result
radial_small c = subst (PartsWithin 1000000000) (sym (radial_is c)) (unit_of_place c.args.r c.requires)

pub cross-across-requires-clause-parts_within : goal.cross-across-requires-clause-parts_within
cross-across-requires-clause-parts_within c = subst (PartsWithin 1000000000) (sym c.solar_axis.ensures) axis_small

pub cross-across-requires-clause-parts_within_2 : goal.cross-across-requires-clause-parts_within_2
cross-across-requires-clause-parts_within_2 c = radial_small (goal.at.cross-across-requires-clause-parts_within_2 c).After-over_length-radial

-- S×R
across_is : (c : After-cross-across) → c.cross-across.result ≡ axis_cross c.args.r
across_is c = c.cross-across.ensures ∙ (λ i. cross_of (c.solar_axis.ensures i) (radial_is (goal.at.length-k-requires c).After-over_length-radial i))

across_parts : (c : After-cross-across) → PartsWithin 2000000000 c.cross-across.result
across_parts c = subst (PartsWithin 2000000000) (sym (across_is c)) (across_small c.args.r c.requires)

pub length-k-requires : goal.length-k-requires
length-k-requires c = across_parts c

pub over_length-requires-clause-parts_within : goal.over_length-requires-clause-parts_within
over_length-requires-clause-parts_within c = across_parts (goal.at.over_length-requires-clause-parts_within c).After-cross-across

-- T
tangential_is : (c : After-over_length) → c.over_length.result ≡ unit_of (axis_cross c.args.r)
unfolding unit_of
tangential_is c =
    let e = across_is (goal.at.rtn-requires-clause-parts_within_2 c).After-cross-across in
    c.over_length.ensures ∙ (λ i. over_length ((c.length-k.ensures.value ∙ ap length_of e) i) (e i))

pub rtn-requires-clause-parts_within : goal.rtn-requires-clause-parts_within
rtn-requires-clause-parts_within c = radial_small (goal.at.rtn-requires-clause-parts_within c).After-over_length-radial

pub rtn-requires-clause-parts_within_2 : goal.rtn-requires-clause-parts_within_2
rtn-requires-clause-parts_within_2 c = subst (PartsWithin 1000000000) (sym (tangential_is c)) (across_unit_small c.args.r c.requires)
