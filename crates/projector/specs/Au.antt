-- Document 01, "Counts used": "A place for the projector is three doubles in au: each is the whole count made a double, then
-- one division by 10,000,000. A refused one is three zeros."
use Rattle.std.specs.Prelude.{false, ℤ, pos, Float}
use Rattle.std.specs.Float.{fin, binary64}
use Rattle.std.specs.Float.Ieee.{div, of_int}
use Rattle.integers.specs.Range.{Within}
use Rattle.projector.specs.declared.PlaceInAu.{PlaceInAu}

-- `div` rounds once, to the nearest double
abbrev pub au : ℤ → Float
au n = div binary64 (of_int binary64 n) (of_int binary64 (pos 10000000))

abbrev pub in_au : ℤ → ℤ → ℤ → PlaceInAu
in_au x y z = record { x = au x; y = au y; z = au z }

-- the double 0.0
abbrev pub no_au : Float
no_au = fin false 0 (pos 0)

abbrev pub nowhere : PlaceInAu
nowhere = record { x = no_au; y = no_au; z = no_au }

-- counts that become doubles exactly: up to 2^53 either way
pub record CountsExact (x y z : ℤ) : Type 0 where
  pub x_exact : Within 9007199254740992 x
  pub y_exact : Within 9007199254740992 y
  pub z_exact : Within 9007199254740992 z
