-- Document 01, "From date to place", steps 3 to 5: from elements to the place in HAE of J2000, in counts of 10^-7 au.
use Rattle.std.specs.Prelude.{List, [], ◌∷◌, ℤ, pos, neg_ℤ, nat_abs, ◌+ℤ◌, ◌-ℤ◌, ◌*ℤ◌}
use Rattle.integers.specs.Floor.{floor_div, unit_product, end_turn}
use Rattle.integers.specs.Root.{root_of}
use Rattle.angles.specs.Unit.{hundred_millionths}
use Rattle.angles.specs.Sine.{sine_of, cosine_of}
use Rattle.kepler.specs.Eccentric.{eccentric}
use Rattle.orbits.specs.declared.Elements.{Elements}
use Rattle.orbits.specs.declared.InPlane.{InPlane}
use Rattle.orbits.specs.declared.Coefficients.{Coefficients}
use Rattle.orbits.specs.Elements.{elements_at, mean_at, argument_of, inclination_of, node_of}

-- step 4: f is the greatest whole number with f² ≤ 10^18 - (10e)²
unfoldable pub minor_of : ℤ → ℤ
minor_of e = pos (root_of (nat_abs (pos 1000000000000000000 -ℤ (pos 10 *ℤ e) *ℤ (pos 10 *ℤ e))))

-- step 4: x' = floor(a·(cos E - 10e) / 10^10)
unfoldable pub plane_x : ℤ → ℤ → ℤ → ℤ
plane_x a e E = floor_div (a *ℤ (cosine_of E -ℤ pos 10 *ℤ e)) 10000000000

-- step 4: y' = floor(a·f / 10^10), then that ∘ sin E
unfoldable pub plane_y : ℤ → ℤ → ℤ → ℤ
plane_y a e E = unit_product (floor_div (a *ℤ minor_of e) 10000000000) (sine_of E)

abbrev pub in_plane : ℤ → ℤ → ℤ → InPlane
in_plane a e E = record { x = plane_x a e E; y = plane_y a e E }

-- step 5: the six coefficients of (8-34) from the sines and cosines of ω, Ω and I, formed with ∘ in the order printed
abbrev pub coefficients_by : ℤ → ℤ → ℤ → ℤ → ℤ → ℤ → Coefficients
coefficients_by sω cω sΩ cΩ sI cI =
    record {
      px = unit_product cω cΩ -ℤ unit_product (unit_product sω sΩ) cI;
      qx = neg_ℤ (unit_product sω cΩ) -ℤ unit_product (unit_product cω sΩ) cI;
      py = unit_product cω sΩ +ℤ unit_product (unit_product sω cΩ) cI;
      qy = neg_ℤ (unit_product sω sΩ) +ℤ unit_product (unit_product cω cΩ) cI;
      pz = unit_product sω sI;
      qz = unit_product cω sI;
    }

unfoldable pub coefficients_of : ℤ → ℤ → ℤ → Coefficients
coefficients_of ω Ω I = coefficients_by (sine_of ω) (cosine_of ω) (sine_of Ω) (cosine_of Ω) (sine_of I) (cosine_of I)

-- step 5: each coordinate is (P·x' + Q·y') / 10^9, ended as a turn is (02, Item 4)
abbrev pub ecliptic_of : Coefficients → ℤ → ℤ → List ℤ
ecliptic_of k x y =
    end_turn (k.px *ℤ x +ℤ k.qx *ℤ y)
    ∷ end_turn (k.py *ℤ x +ℤ k.qy *ℤ y)
    ∷ end_turn (k.pz *ℤ x +ℤ k.qz *ℤ y)
    ∷ []

-- steps 3 to 5, by the elements and the mean anomaly
unfoldable pub place_of : Elements → ℤ → List ℤ
place_of el M =
    let a = hundred_millionths el.a in
    let e = hundred_millionths el.e in
    let E = eccentric e M in
    ecliptic_of (coefficients_of (argument_of el) (node_of el) (inclination_of el)) (plane_x a e E) (plane_y a e E)

-- the place on minute m of the body whose elements a row of twelve numbers gives, with the four numbers of the further terms of M
abbrev pub place_at : (row terms : List ℤ) → ℤ → List ℤ
place_at row terms m = place_of (elements_at row m) (mean_at row terms m)
