-- Document 01, "Counts used": elements are counted in hundred-millionths, angles in millionths of a degree.
use Rattle.std.specs.Prelude.{ℤ, pos, ◌+ℤ◌, ◌-ℤ◌}
use Rattle.integers.specs.Floor.{floor_div, floor_mod}
use Rattle.angles.specs.declared.Angle.{Angle}
use Rattle.angles.specs.declared.Element.{Element}

-- the count that an angle or an element holds
abbrev pub millionths : Angle → ℤ
millionths a = a.0

abbrev pub hundred_millionths : Element → ℤ
hundred_millionths e = e.0

-- the angle of a count
abbrev pub angle_of : ℤ → Angle
angle_of n = record { 0 = n }

-- the element of a count
abbrev pub element_of : ℤ → Element
element_of n = record { 0 = n }

-- 01, step 2: element counts of a degree become angle counts, "divided by 100 with floor"
abbrev pub in_millionths : ℤ → ℤ
in_millionths e = floor_div e 100

-- 01, step 2: "brought to -180,000,000 up to but without 180,000,000"
unfoldable pub one_turn : ℤ → ℤ
one_turn t = floor_mod (t +ℤ pos 180000000) 360000000 -ℤ pos 180000000
