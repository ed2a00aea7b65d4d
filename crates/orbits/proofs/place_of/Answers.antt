-- `place_of` is steps 3 to 5: from elements and a mean anomaly to the place in HAE of J2000.
-- By what each call ensures; the eccentricity is in the solver's range.
use mathlib.Core.Path.{◌≡◌, subst, subst₂, sym, ap, ◌∙◌}
use Prim.Native.Nat.{◌≤◌}
use native.Mathlib.Omega.{arith}
use lib.IntN.{ℤ, pos, nat_abs}
use Rattle.integers.specs.Range.{Within}
use Rattle.integers.proofs.Cast.{read, back_ok, cast_fits}
use Rattle.integers.proofs.Number.{known, w_read}
use Rattle.integers.proofs.Ranges.{range_size, range_most}
use Rattle.angles.specs.Unit.{millionths, hundred_millionths}
use Rattle.kepler.specs.Eccentric.{eccentric}
use Rattle.orbits.specs.Elements.{argument_of, inclination_of, node_of}
use Rattle.orbits.specs.Place.{in_plane, coefficients_of, ecliptic_of, place_of}
use Rattle.orbits.specs.Range.{AxisFits, Bounded}
use Rattle.orbits.specs.declared.Elements.{Elements}
use Rattle.orbits.specs.declared.InPlane.{InPlane}
use Rattle.orbits.proofs.Bounds.{plane_x_small, plane_y_small, bounded}
use Rattle.orbits.proofs.place_of.Goals as goal
use Rattle.orbits.proofs.place_of.Goals.{After-coefficients_of-k, After-eccentric-anomaly, After-hundred_millionths, After-hundred_millionths-size, After-in_plane-p, Start}

-- the half-axis, the eccentricity and the eccentric anomaly of the elements
module _ (s : Start) where
  abbrev el : Elements
  el = s.args.elements

  abbrev a : ℤ
  a = hundred_millionths el.a

  abbrev e : ℤ
  e = hundred_millionths el.e

  abbrev E : ℤ
  E = eccentric e (millionths s.args.mean)

  fit : AxisFits a e
  fit = s.requires.axis

abbrev start : After-hundred_millionths-size → Start
start c = c.before.before

e_is : (c : After-hundred_millionths-size) → read c.hundred_millionths-size.result ≡ e (start c)
e_is c = back_ok c.hundred_millionths-size.result c.hundred_millionths-size.type_inv ∙ c.hundred_millionths-size.ensures

size_is : (c : After-hundred_millionths-size) → pos (nat_abs (read c.hundred_millionths-size.result)) ≡ e (start c)
size_is c = ap (λ (z : ℤ). pos (nat_abs z)) (e_is c) ∙ range_size 0 (e (start c)) (fit (start c)).elliptic

size_small : (c : After-hundred_millionths-size) → nat_abs (read c.hundred_millionths-size.result) ≤ 90000000
size_small c = subst (λ (z : ℤ). nat_abs z ≤ 90000000) (sym (e_is c)) (range_most 0 (e (start c)) (fit (start c)).elliptic)

pub overflow_cast-size : goal.overflow_cast-size
overflow_cast-size c = cast_fits (e_is c) (fit (start c)).elliptic.low (let h = range_most 0 (e (start c)) (fit (start c)).elliptic in omega arith)

pub eccentric-anomaly-requires : goal.eccentric-anomaly-requires
eccentric-anomaly-requires c = size_small c

anomaly_is : (c : After-eccentric-anomaly) → millionths c.eccentric-anomaly.result ≡ E (start c.before)
anomaly_is c = c.eccentric-anomaly.ensures.result_value ∙ (λ i. eccentric (size_is c.before i) (millionths (start c.before).args.mean))

abbrev first : After-hundred_millionths → After-hundred_millionths-size
first c = c.before.before.before

a_is : (c : After-hundred_millionths) → read c.hundred_millionths.result ≡ a (start (first c))
a_is c = back_ok c.hundred_millionths.result c.hundred_millionths.type_inv ∙ c.hundred_millionths.ensures

pub in_plane-p-requires : goal.in_plane-p-requires
in_plane-p-requires c =
    subst₂ AxisFits (sym (a_is c)) (sym (size_is (first c))) (fit (start (first c)))

plane_is : (c : After-in_plane-p) → c.in_plane-p.result ≡ in_plane (a (start (first c.before))) (e (start (first c.before))) (E (start (first c.before)))
plane_is c =
    c.in_plane-p.ensures
    ∙ (λ i. in_plane (a_is c.before i) (size_is (first c.before) i) (anomaly_is c.before.before.before i))

module _ (c : After-in_plane-p) where
  abbrev s : Start
  s = start (first c.before)

  x_small : Within 500000000 c.in_plane-p.result.x
  x_small = subst (λ (p : InPlane). Within 500000000 p.x) (sym (plane_is c)) (plane_x_small (a s) (e s) (E s) (fit s))

  y_small : Within 450000000 c.in_plane-p.result.y
  y_small = subst (λ (p : InPlane). Within 450000000 p.y) (sym (plane_is c)) (plane_y_small (a s) (e s) (E s) (fit s))

pub argument_of-requires : goal.argument_of-requires
argument_of-requires c = (s c).requires

abbrev plane : After-coefficients_of-k → After-in_plane-p
plane c = c.before.before.before.before.before.before

coefficients_are : (c : After-coefficients_of-k) → c.coefficients_of-k.result ≡ coefficients_of (argument_of (el (s (plane c)))) (node_of (el (s (plane c)))) (inclination_of (el (s (plane c))))
coefficients_are c =
    c.coefficients_of-k.ensures
    ∙ (λ i. coefficients_of (c.before.before.before.before.before.argument_of.ensures i) (c.before.before.before.to_angle.ensures i) (c.before.to_angle-2.ensures i))

pub ecliptic-requires : goal.ecliptic-requires
ecliptic-requires c =
    let k = (goal.at.ecliptic-requires c).After-coefficients_of-k in
    let p = plane k in record { bounded = subst Bounded (sym (coefficients_are k)) (bounded (argument_of (el (s p))) (node_of (el (s p))) (inclination_of (el (s p)))); within = (w_read (x_small p) tt, w_read (y_small p) tt) }

pub returns : goal.returns
unfolding place_of
returns c =
    let k = c.before.before.before in
    let p = plane k in
    c.ecliptic.ensures
    ∙ (λ i. ecliptic_of (coefficients_are k i) (((known (x_small p) tt).is ∙ ap (λ (q : InPlane). q.x) (plane_is p)) i) (((known (y_small p) tt).is ∙ ap (λ (q : InPlane). q.y) (plane_is p)) i))
