-- Document 01, "Numbered refusals", and document 02, Items 1 and 3: the number of each.
use Rattle.std.specs.Prelude.{ℤ, pos, Result, Ok, Err}
use Rattle.refusals.specs.declared.Refusal.{Refusal}
use Rattle.refusals.specs.declared.Refusal.TheVariants.{NotFinite, OutsideInterval, NoSuchBody, NoSuchFrame, TooFar, NoDirection, NoEllipse, ShortBuffer, NoRow, BadCount, NoSuchTable, NoSuchDate}

abbrev pub number_of : Refusal → ℤ
number_of NotFinite = pos 1
number_of OutsideInterval = pos 2
number_of NoSuchBody = pos 3
number_of NoSuchFrame = pos 4
number_of TooFar = pos 5
number_of NoDirection = pos 6
number_of NoEllipse = pos 7
number_of ShortBuffer = pos 8
number_of NoRow = pos 9
number_of BadCount = pos 10
number_of NoSuchTable = pos 11
number_of NoSuchDate = pos 12

-- the number of an answer: 0 where there is one, else its refusal's
abbrev pub status_of : {A : Type 0} → Result A Refusal → ℤ
status_of (Ok x) = pos 0
status_of (Err r) = number_of r
