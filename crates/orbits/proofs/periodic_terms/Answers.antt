-- `periodic_terms` is c∘cos(fT) + s∘sin(fT), and 0 where c and s are.
-- Each product is a number of at most 5·10^9.
use mathlib.Core.Path.{◌≡◌, subst, sym, ap, ◌∙◌}
use Prim.Native.Nat.{◌^◌}
use lib.Dec.{T, eqb, eqb→eq, ltb→lt}
use lib.IntN.{ℤ, pos}
use mir.Facts.{and_yes}
use mir.Syntax.{w64}
use mir.Val.{SFits, of_z}
use Rattle.integers.specs.Floor.{unit_product}
use Rattle.integers.proofs.Cast.{read, same_bits, pos_fits}
use Rattle.integers.proofs.Number.{Num, known, got, unit_got, nums_fit, w_read, w_more, add, add_fits}
use Rattle.angles.specs.Unit.{millionths, in_millionths}
use Rattle.angles.specs.Sine.{sine_of, cosine_of}
use Rattle.angles.proofs.Laws.{sine_small, cosine_small}
use Rattle.dates.specs.Minute.{drift_of}
use Rattle.orbits.specs.Elements.{phase_of, periodic_terms}
use Rattle.orbits.proofs.Terms.{once_within, no_periodic}
use Rattle.orbits.proofs.periodic_terms.Goals as goal
use Rattle.orbits.proofs.periodic_terms.Goals.{After-cosine, After-sine, After-to_angle-phase, After-unit_product, After-unit_product-2, Start}

-- a number whose bits are 0
is_0 : {z : ℤ} → SFits w64 z → T (eqb (of_z w64 z) 0) → z ≡ pos 0
is_0 {z} f t = same_bits f (pos_fits 0 (ltb→lt 0 (2 ^ 63) tt)) (eqb→eq (of_z w64 z) 0 t)

pub returns-then-c-s : goal.returns-then-c-s
returns-then-c-s c =
    let s = c.before in
    let z = and_yes (eqb (of_z w64 s.args.c) 0) (eqb (of_z w64 s.args.s) 0) (subst T (sym c.if-c-s.true) tt) in
    sym ((λ i. periodic_terms (is_0 s.ranges.c z.0 i) (is_0 s.ranges.s z.1 i) s.args.f s.args.minute) ∙ no_periodic s.args.f s.args.minute)

pub drift-requires : goal.drift-requires
drift-requires c =
    let p = c.before.requires.within_2 in
    record { rate_fits = w_read (w_more p.0 tt) tt; minute_fits = w_read p.1 tt }

-- fT
phase_is : (c : After-to_angle-phase) → millionths c.to_angle-phase.result ≡ phase_of c.before.before.before.before.args.f c.before.before.before.before.args.minute
phase_is c =
    let d = c.before.before in
    let s = d.before.before in
    let p = s.requires.within_2 in
    c.to_angle-phase.ensures
    ∙ ap in_millionths (c.before.of_hundred_millionths.ensures ∙ (got d.drift.type_inv (d.drift.ensures ∙ (λ i. drift_of ((known p.0 tt).is i) ((known p.1 tt).is i))) (once_within p.0 p.1)).is)

abbrev start : After-cosine → Start
start c = c.before.before.before.before.before

cosine : (c : After-cosine) → Num (read c.cosine.result) (cosine_of (phase_of (start c).args.f (start c).args.minute)) 1000000000
cosine c = got c.cosine.type_inv (c.cosine.ensures ∙ ap cosine_of (phase_is c.before)) (cosine_small (phase_of (start c).args.f (start c).args.minute))

first : (c : After-unit_product) → Num (read c.unit_product.result) (unit_product (start c.before).args.c (cosine_of (phase_of (start c.before).args.f (start c.before).args.minute))) 5000000000
first c = unit_got 5000000000 c.unit_product.type_inv c.unit_product.ensures (known (start c.before).requires.within.0 tt) (cosine c.before) tt

sine : (c : After-sine) → Num (read c.sine.result) (sine_of (phase_of (start c.before.before).args.f (start c.before.before).args.minute)) 1000000000
sine c =
    let d = c.before.before in
    got c.sine.type_inv (c.sine.ensures ∙ ap sine_of (phase_is d.before)) (sine_small (phase_of (start d).args.f (start d).args.minute))

second : (c : After-unit_product-2) → Num (read c.unit_product-2.result) (unit_product (start c.before.before.before).args.s (sine_of (phase_of (start c.before.before.before).args.f (start c.before.before.before).args.minute))) 5000000000
second c = unit_got 5000000000 c.unit_product-2.type_inv c.unit_product-2.ensures (known (start c.before.before.before).requires.within.1 tt) (sine c.before) tt

pub returns : goal.returns
unfolding periodic_terms
returns c = (add (first c.before.before) (second c) tt).is

pub unit_product-requires : goal.unit_product-requires
unit_product-requires c = nums_fit (known (start c).requires.within.0 tt) (cosine c) tt

pub unit_product-requires-2 : goal.unit_product-requires-2
unit_product-requires-2 c = nums_fit (known (start c.before.before).requires.within.1 tt) (sine c) tt

pub overflow_add-result : goal.overflow_add-result
overflow_add-result c = add_fits (first c.before.before) (second c) tt
