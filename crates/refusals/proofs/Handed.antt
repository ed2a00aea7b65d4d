-- A `?` hands a refusal on as it is.
-- The library says that the answer is an error, made of the one that came; a refusal is made of itself.
use mathlib.Core.Path.{◌≡◌, ap, ◌∙◌}
use Rattle.std.specs.Prelude.{Result, Err, IsErrAnd}
use Rattle.std.proofs.lemmas.Result.{err_from_is_err_and}
use Rattle.refusals.specs.declared.Refusal.{Refusal}

pub handed_on : {A : Type 0} {answer : Result A Refusal} {refusal : Refusal} → IsErrAnd answer (λ r. r ≡ refusal) → answer ≡ Err refusal
handed_on {A} {answer} h = let e = err_from_is_err_and answer h in e.1 ∙ ap Err e.2
