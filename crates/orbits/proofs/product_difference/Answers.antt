-- `product_difference` is a ∘ b - (c ∘ d) ∘ i.
-- Every product is a number of at most 10^9.
use Rattle.integers.specs.Floor.{unit_product}
use Rattle.integers.proofs.Cast.{read}
use Rattle.integers.proofs.Number.{Num, known, unit_got, nums_fit, sub, sub_fits}
use Rattle.orbits.proofs.product_difference.Goals as goal
use Rattle.orbits.proofs.product_difference.Goals.{After-unit_product, After-unit_product-2, After-unit_product-inner}

inner : (c : After-unit_product-inner) → Num (read c.unit_product-inner.result) (unit_product c.before.args.c c.before.args.d) 1000000000
inner c = let p = c.before.requires.within_2 in unit_got 1000000000 c.unit_product-inner.type_inv c.unit_product-inner.ensures (known p.0 tt) (known p.1 tt) tt

first : (c : After-unit_product) → Num (read c.unit_product.result) (unit_product c.before.before.args.a c.before.before.args.b) 1000000000
first c = let p = c.before.before.requires.within in unit_got 1000000000 c.unit_product.type_inv c.unit_product.ensures (known p.0 tt) (known p.1 tt) tt

second : (c : After-unit_product-2) → Num (read c.unit_product-2.result) (unit_product (unit_product c.before.before.before.args.c c.before.before.before.args.d) c.before.before.before.args.i) 1000000000
second c = unit_got 1000000000 c.unit_product-2.type_inv c.unit_product-2.ensures (inner c.before.before) (known c.before.before.before.requires.within_3 tt) tt

pub unit_product-inner-requires : goal.unit_product-inner-requires
unit_product-inner-requires c = nums_fit (known c.requires.within_2.0 tt) (known c.requires.within_2.1 tt) tt

pub unit_product-requires : goal.unit_product-requires
unit_product-requires c = nums_fit (known c.before.requires.within.0 tt) (known c.before.requires.within.1 tt) tt

pub unit_product-requires-2 : goal.unit_product-requires-2
unit_product-requires-2 c = nums_fit (inner c.before) (known c.before.before.requires.within_3 tt) tt

pub overflow_sub-result : goal.overflow_sub-result
overflow_sub-result c = sub_fits (first c.before) (second c) tt

pub returns : goal.returns
returns c = (sub (first c.before) (second c) tt).is
