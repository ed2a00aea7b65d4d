-- `coefficients_by` forms (8-34)'s six coefficients with ∘ in the order printed.
-- Each is what a call ensures, of the numbers read back; a minus sign before two products is one before their sum.
use mathlib.Core.Path.{◌≡◌, ◌∙◌}
use Prim.Native.Nat.{◌<◌, ◌^◌}
use lib.IntN.{ℤ, pos, neg_ℤ, ◌+ℤ◌, ◌-ℤ◌}
use lib.Signed.{mag}
use Rattle.integers.specs.Range.{Within}
use Rattle.integers.specs.Floor.{unit_product}
use Rattle.integers.proofs.Difference.{zarith, d_add, d_minus, up_neg, dn_neg}
use Rattle.integers.proofs.Cast.{read}
use Rattle.integers.proofs.Number.{Num, known, got, lit, nums_fit, unit_got, sub, sub_fits, w_add, w_sub, w_mul, w_floor}
use Rattle.orbits.specs.declared.Coefficients.{Coefficients}
use Rattle.orbits.proofs.coefficients_by.Goals as goal
use Rattle.orbits.proofs.coefficients_by.Goals.{After-product_difference, After-product_difference-2, After-product_sum, After-product_sum-2, Start}

abbrev Small : ℤ → Type 0
Small z = Within 1000000000 z

abbrev Given : ℤ → ℤ → Type 0
Given x z = Num x z 1000000000

-- ---- what a call gives: two products, of which the second is of three, put together by + or -
small : {a b : ℤ} → Small a → Small b → Small (unit_product a b)
small p q = w_floor 999999999 1000000000 (w_mul p q) tt

-- a ∘ b and (c ∘ d) ∘ i, put together
abbrev two : (ℤ → ℤ → ℤ) → ℤ → ℤ → ℤ → ℤ → ℤ → ℤ
two op a b c d i = op (unit_product a b) (unit_product (unit_product c d) i)

formed : (op : ℤ → ℤ → ℤ) → ((x y : ℤ) → Small x → Small y → Within 2000000000 (op x y)) → {r a b c d i a' b' c' d' i' : ℤ} → mag r < 2 ^ 63 → r ≡ two op a b c d i → Given a a' → Given b b' → Given c c' → Given d d' → Given i i' → Num (read r) (two op a' b' c' d' i') 2000000000
formed op w f e a b c d i =
    got f (e ∙ (λ j. two op (a.is j) (b.is j) (c.is j) (d.is j) (i.is j)))
    (w _ _ (small a.small b.small) (small (small c.small d.small) i.small))

-- ---- a minus sign before two products
minus_sum : (x y : ℤ) → pos 0 -ℤ (x +ℤ y) ≡ neg_ℤ x -ℤ y
minus_sum x y = omega (zarith, d_add x y, d_minus (pos 0) (x +ℤ y), up_neg x, dn_neg x, d_minus (neg_ℤ x) y)

minus_difference : (x y : ℤ) → pos 0 -ℤ (x -ℤ y) ≡ neg_ℤ x +ℤ y
minus_difference x y = omega (zarith, d_minus x y, d_minus (pos 0) (x -ℤ y), up_neg x, dn_neg x, d_add (neg_ℤ x) y)

-- ---- the six numbers given
module _ (s : Start) where
  sw : Given (read s.args.sw) s.args.sw
  sw = known s.requires.within.0 tt

  cw : Given (read s.args.cw) s.args.cw
  cw = known s.requires.within.1 tt

  sn : Given (read s.args.sn) s.args.sn
  sn = known s.requires.within_2.0 tt

  cn : Given (read s.args.cn) s.args.cn
  cn = known s.requires.within_2.1 tt

  si : Given (read s.args.si) s.args.si
  si = known s.requires.within_3.0 tt

  ci : Given (read s.args.ci) s.args.ci
  ci = known s.requires.within_3.1 tt

-- ---- what the four calls gave
px : (c : After-product_difference) → (let a = c.before.args in Num (read c.product_difference.result) (two ◌-ℤ◌ a.cw a.cn a.sw a.sn a.ci) 2000000000)
px c = let s = c.before in formed ◌-ℤ◌ (λ x y. w_sub) c.product_difference.type_inv c.product_difference.ensures (cw s) (cn s) (sw s) (sn s) (ci s)

qx : (c : After-product_sum) → (let a = c.before.before.args in Num (read c.product_sum.result) (two ◌+ℤ◌ a.sw a.cn a.cw a.sn a.ci) 2000000000)
qx c = let s = c.before.before in formed ◌+ℤ◌ (λ x y. w_add) c.product_sum.type_inv c.product_sum.ensures (sw s) (cn s) (cw s) (sn s) (ci s)

py : (c : After-product_sum-2) → (let a = c.before.before.before.args in Num (read c.product_sum-2.result) (two ◌+ℤ◌ a.cw a.sn a.sw a.cn a.ci) 2000000000)
py c = let s = c.before.before.before in formed ◌+ℤ◌ (λ x y. w_add) c.product_sum-2.type_inv c.product_sum-2.ensures (cw s) (sn s) (sw s) (cn s) (ci s)

qy : (c : After-product_difference-2) → (let a = c.before.before.before.before.args in Num (read c.product_difference-2.result) (two ◌-ℤ◌ a.sw a.sn a.cw a.cn a.ci) 2000000000)
qy c = let s = c.before.before.before.before in formed ◌-ℤ◌ (λ x y. w_sub) c.product_difference-2.type_inv c.product_difference-2.ensures (sw s) (sn s) (cw s) (cn s) (ci s)

abbrev six : ℤ → ℤ → ℤ → ℤ → ℤ → ℤ → Coefficients
six a b c d e f = record { px = a; qx = b; py = c; qy = d; pz = e; qz = f }

pub returns : goal.returns
returns c =
    let z = c.before in
    let d4 = z.before in
    let d3 = d4.before in
    let d2 = d3.before in
    let d1 = d2.before in
    let s = d1.before in
    λ i.
    six ((px d1).is i) (((sub (lit (pos 0)) (qx d2) tt).is ∙ minus_sum (unit_product s.args.sw s.args.cn) (unit_product (unit_product s.args.cw s.args.sn) s.args.ci)) i) ((py d3).is i) (((sub (lit (pos 0)) (qy d4) tt).is ∙ minus_difference (unit_product s.args.sw s.args.sn) (unit_product (unit_product s.args.cw s.args.cn) s.args.ci)) i)
    ((unit_got 1000000000 z.unit_product.type_inv z.unit_product.ensures (sw s) (si s) tt).is i)
    ((unit_got 1000000000 c.unit_product-2.type_inv c.unit_product-2.ensures (cw s) (si s) tt).is i)

pub overflow_sub-result : goal.overflow_sub-result
overflow_sub-result c = sub_fits (lit (pos 0)) (qx c) tt

pub overflow_sub-result-2 : goal.overflow_sub-result-2
overflow_sub-result-2 c = sub_fits (lit (pos 0)) (qy c) tt

pub unit_product-requires : goal.unit_product-requires
unit_product-requires c = let s = c.before.before.before.before in nums_fit (sw s) (si s) tt

pub unit_product-requires-2 : goal.unit_product-requires-2
unit_product-requires-2 c = let s = c.before.before.before.before.before in nums_fit (cw s) (si s) tt
