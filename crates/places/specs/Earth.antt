-- A term of an inner contract: the Earth's place where a frame goes by it, and three zeros where none does.
use Rattle.std.specs.Prelude.{Bool, true, false, List, ℤ}
use Rattle.integers.specs.Triple.{zeros}
use Rattle.places.specs.Answer.{earth_at}

abbrev pub earth_if : (needed : Bool) → (table : ℤ) → ℤ → List ℤ
earth_if true table m = earth_at table m
earth_if false table m = zeros
