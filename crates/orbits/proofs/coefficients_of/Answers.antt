-- `coefficients_of` are the coefficients of three angles.
-- By what each call ensures: a sine or a cosine, of at most 10^9.
use mathlib.Core.Path.{◌≡◌, subst, sym, ◌∙◌}
use lib.IntN.{ℤ}
use lib.Signed.{mag}
use Prim.Native.Nat.{◌<◌, ◌^◌}
use Rattle.integers.specs.Range.{Within}
use Rattle.integers.proofs.Cast.{read, back_ok}
use Rattle.angles.proofs.Laws.{sine_small, cosine_small}
use Rattle.orbits.specs.Place.{coefficients_by, coefficients_of}
use Rattle.orbits.proofs.coefficients_of.Goals as goal

-- a call's result, read back, is the sine or cosine that the call ensures, and is as small
same : {x z : ℤ} → mag x < 2 ^ 63 → x ≡ z → read x ≡ z
same {x} f e = back_ok x f ∙ e

small : {x z : ℤ} → mag x < 2 ^ 63 → x ≡ z → Within 1000000000 z → Within 1000000000 (read x)
small f e w = subst (Within 1000000000) (sym (same f e)) w

pub coefficients_by-requires : goal.coefficients_by-requires
coefficients_by-requires c =
    let c5 = c.before in
    let c4 = c5.before in
    let c3 = c4.before in
    let c2 = c3.before in
    let c1 = c2.before in record { within = (small c1.sine.type_inv c1.sine.ensures (sine_small _), small c2.cosine.type_inv c2.cosine.ensures (cosine_small _)); within_2 = (small c3.sine-2.type_inv c3.sine-2.ensures (sine_small _), small c4.cosine-2.type_inv c4.cosine-2.ensures (cosine_small _)); within_3 = (small c5.sine-3.type_inv c5.sine-3.ensures (sine_small _), small c.cosine-3.type_inv c.cosine-3.ensures (cosine_small _)) }

pub returns : goal.returns
unfolding coefficients_of
returns c =
    let c6 = c.before in
    let c5 = c6.before in
    let c4 = c5.before in
    let c3 = c4.before in
    let c2 = c3.before in
    let c1 = c2.before in
    c.coefficients_by.ensures
    ∙ (λ i.
    coefficients_by
    (same c1.sine.type_inv c1.sine.ensures i) (same c2.cosine.type_inv c2.cosine.ensures i)
    (same c3.sine-2.type_inv c3.sine-2.ensures i) (same c4.cosine-2.type_inv c4.cosine-2.ensures i)
    (same c5.sine-3.type_inv c5.sine-3.ensures i) (same c6.cosine-3.type_inv c6.cosine-3.ensures i))
