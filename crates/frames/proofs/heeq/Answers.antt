-- `heeq` takes cross products and unit vectors of small vectors only, so that none of them overflows.
-- By what `solar_axis`, `unit` and `cross` ensure, each result being the definition's.
use mathlib.Core.Path.{◌≡◌, subst, sym, ap, ◌∙◌}
use Rattle.vectors.specs.Vector.{unit_of, cross_of}
use Rattle.integers.specs.Triple.{PartsWithin}
use Rattle.frames.specs.Frame.{axis_cross}
use Rattle.frames.proofs.Rows.{axis_small, unit_of_place, across_small, across_unit_small}
use Rattle.frames.proofs.heeq.Goals as goal
use Rattle.frames.proofs.heeq.Goals.{After-cross}

pub cross-requires-clause-parts_within : goal.cross-requires-clause-parts_within
cross-requires-clause-parts_within c = subst (PartsWithin 1000000000) (sym c.solar_axis-axis.ensures) axis_small

pub cross-requires-clause-parts_within_2 : goal.cross-requires-clause-parts_within_2
cross-requires-clause-parts_within_2 c = subst (PartsWithin 1000000000) (sym c.unit.ensures) (unit_of_place c.args.earth c.requires)

across_is : (c : After-cross) → c.cross.result ≡ axis_cross c.args.earth
across_is c = c.cross.ensures ∙ (λ i. cross_of (c.solar_axis-axis.ensures i) (c.unit.ensures i))

pub unit-y-requires : goal.unit-y-requires
unit-y-requires c = subst (PartsWithin 2000000000) (sym (across_is (goal.at.unit-y-requires c).After-cross)) (across_small c.args.earth c.requires)

pub cross-requires-2-clause-parts_within : goal.cross-requires-2-clause-parts_within
cross-requires-2-clause-parts_within c =
    let e = c.unit-y.ensures ∙ ap unit_of (across_is (goal.at.cross-requires-2-clause-parts_within c).After-cross) in
    subst (PartsWithin 1000000000) (sym e) (across_unit_small c.args.earth c.requires)

pub cross-requires-2-clause-parts_within_2 : goal.cross-requires-2-clause-parts_within_2
cross-requires-2-clause-parts_within_2 c = subst (PartsWithin 1000000000) (sym c.solar_axis-axis.ensures) axis_small
