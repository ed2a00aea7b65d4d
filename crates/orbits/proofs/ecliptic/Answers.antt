-- `ecliptic` is step 5: each coordinate from its two coefficients.
-- By what the three calls ensure, of the numbers read back.
use mathlib.Core.List.{[], ◌∷◌}
use mathlib.Core.Path.{◌∙◌}
use lib.IntN.{◌+ℤ◌, ◌*ℤ◌}
use Rattle.integers.specs.Floor.{end_turn}
use Rattle.integers.proofs.Cast.{back_ok}
use Rattle.integers.proofs.Number.{known}
use Rattle.orbits.proofs.ecliptic.Goals as goal

pub returns : goal.returns
returns c =
    let c2 = c.before.before.before in
    let c1 = c2.before.before.before in
    let s = c1.before.before.before in
    let x = (known s.requires.within.0 tt).is in
    let y = (known s.requires.within.1 tt).is in
    let b = s.requires.bounded in
    let e1 = back_ok c1.coordinate.result c1.coordinate.type_inv ∙ c1.coordinate.ensures ∙ (λ j. end_turn ((known b.px tt).is j *ℤ x j +ℤ (known b.qx tt).is j *ℤ y j)) in
    let e2 = back_ok c2.coordinate-2.result c2.coordinate-2.type_inv ∙ c2.coordinate-2.ensures ∙ (λ j. end_turn ((known b.py tt).is j *ℤ x j +ℤ (known b.qy tt).is j *ℤ y j)) in
    let e3 = back_ok c.coordinate-3.result c.coordinate-3.type_inv ∙ c.coordinate-3.ensures ∙ (λ j. end_turn ((known b.pz tt).is j *ℤ x j +ℤ (known b.qz tt).is j *ℤ y j)) in
    λ i. e1 i ∷ e2 i ∷ e3 i ∷ []
