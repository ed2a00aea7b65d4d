-- The solver's answer as C has it, in document 01's own words.
-- By the two cases of the answer.
use mathlib.Core.Logic.{inl, inr}
use mathlib.Core.Path.{refl, ap}
use lib.IntN.{ℤ}
use Rattle.std.specs.Prelude.{Result, Ok, Err}
use Rattle.refusals.specs.declared.Refusal.{Refusal}
use Rattle.refusals.specs.Number.{number_of}
use Rattle.angles.specs.declared.Angle.{Angle}
use Rattle.kepler.specs.Answer.{Answers}
use Rattle.answers.specs.Answer.{c_angle, IsSolved}

pub in_words : (e M : ℤ) (answer : Result Angle Refusal) → Answers e M answer → IsSolved e M (c_angle answer)
in_words e M (Ok E) h = inl (refl, h.0, h.1)
in_words e M (Err r) h = inr (ap number_of h.0, refl, h.1)
