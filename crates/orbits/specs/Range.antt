-- Terms of inner contracts: the ranges within which a row of twelve numbers gives elements whose place overflows nowhere. They are
-- wider than the tables need: a up to 45 au, a·(1 + e) up to 50 au, e up to 0.9, and 50 centuries either way.
use Rattle.std.specs.Prelude.{List, ℕ, ◌+◌, ◌*◌, ◌≤◌, ℤ, nat_abs}
use Rattle.integers.specs.Range.{Within}
use Rattle.integers.specs.Triple.{at}
use Rattle.angles.specs.Unit.{hundred_millionths}
use Rattle.kepler.specs.Equation.{Elliptic}
use Rattle.orbits.specs.declared.Elements.{Elements}
use Rattle.orbits.specs.declared.Coefficients.{Coefficients}

-- a row's numbers and a minute are small enough for step 1
pub record RowFits (row : List ℤ) (m : ℤ) : Type 0 where
  pub each : (k : ℕ) → Within 100000000000000 (at row k)
  pub minute : Within 2630000000 m

-- so are the four numbers of the further terms of M
pub record TermsFit (terms : List ℤ) (m : ℤ) : Type 0 where
  pub each : (k : ℕ) → Within 5000000000 (at terms k)
  pub minute : Within 2630000000 m

-- a half-axis and an eccentricity for which step 4 overflows nowhere
pub record AxisFits (a e : ℤ) : Type 0 where
  pub axis : nat_abs a ≤ 4500000000
  pub elliptic : Elliptic e
  pub aphelion : nat_abs a * (100000000 + nat_abs e) ≤ 500000000000000000

-- elements from which steps 2 to 5 overflow nowhere
pub record ElementsFit (x : Elements) : Type 0 where
  pub axis : AxisFits (hundred_millionths x.a) (hundred_millionths x.e)
  pub longitude : Within 1000000000000000000 (hundred_millionths x.longitude)
  pub perihelion : Within 1000000000000000000 (hundred_millionths x.perihelion)
  pub node : Within 1000000000000000000 (hundred_millionths x.node)

-- coefficients of step 5
pub record Bounded (k : Coefficients) : Type 0 where
  pub px : Within 1000000010 k.px
  pub qx : Within 1000000010 k.qx
  pub py : Within 1000000010 k.py
  pub qy : Within 1000000010 k.qy
  pub pz : Within 1000000010 k.pz
  pub qz : Within 1000000010 k.qz
