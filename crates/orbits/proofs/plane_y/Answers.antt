-- `plane_y` is step 4's y': floor(a f / 10^10), then that ∘ the sine.
-- By the numbers with bounds of `integers`.
use mathlib.Core.Path.{◌∙◌}
use lib.IntN.{◌*ℤ◌}
use Rattle.integers.specs.Floor.{floor_div, unit_product}
use Rattle.integers.proofs.Cast.{read, back_ok}
use Rattle.integers.proofs.Number.{Num, known, mul, mul_fits, floored, nums_fit}
use Rattle.orbits.proofs.plane_y.Goals as goal
use Rattle.orbits.proofs.plane_y.Goals.{After-floor_div}

pub overflow_mul-a : goal.overflow_mul-a
overflow_mul-a c = mul_fits (known c.requires.within tt) (known c.requires.within_2 tt) tt

axis : (c : After-floor_div) → Num (read c.floor_div.result) (floor_div (c.before.args.a *ℤ c.before.args.f) 10000000000) 450000000
axis c = let s = c.before in floored 9999999999 450000000 c.floor_div.type_inv c.floor_div.ensures (mul (known s.requires.within tt) (known s.requires.within_2 tt) tt) tt

pub unit_product-requires : goal.unit_product-requires
unit_product-requires c = nums_fit (axis c) (known c.before.requires.within_3 tt) tt

pub returns : goal.returns
returns c =
    let s = c.before.before in
    back_ok c.unit_product.result c.unit_product.type_inv ∙ c.unit_product.ensures
    ∙ (λ i. unit_product ((axis c.before).is i) ((known s.requires.within_3 tt).is i))
