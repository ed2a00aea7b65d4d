-- Terms of inner contracts: what a frame asks of the Earth's place.
use Rattle.std.specs.Prelude.{List, ◌+◌, ◌*◌, ◌≤◌, T, ℤ}
use Rattle.integers.specs.Range.{Within}
use Rattle.integers.specs.Triple.{at, PartsWithin}
use Rattle.vectors.specs.Vector.{square_of}
use Rattle.frames.specs.Frame.{needs_earth}

-- a place like the Earth's: 0.93 au or more from the Sun in x and y, and 0.025 au or less off the ecliptic
pub record NearEcliptic (earth : List ℤ) : Type 0 where
  pub away : 9300000 * 9300000 ≤ square_of (at earth 0) + square_of (at earth 1)
  pub low : Within 250000 (at earth 2)

-- what frame f asks of the Earth's place: only HEE and HEEQ go by it
pub record EarthFits (f : ℤ) (earth : List ℤ) : Type 0 where
  pub parts : PartsWithin 1000000000 earth
  pub near : T (needs_earth f) → NearEcliptic earth
