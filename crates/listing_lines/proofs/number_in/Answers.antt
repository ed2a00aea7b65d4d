-- `number_in` is the number of a field, by its first byte.
-- A minus sign is taken off, and what is left are digits.
use mathlib.Core.Bool.{true}
use mathlib.Core.List.{List}
use mathlib.Core.Path.{sym, ap, ◌∙◌}
use Prim.Native.Nat.{ℕ}
use Rattle.listing_lines.specs.Request.{digits_of, with_sign}
use Rattle.listing_lines.proofs.Fields.{first_minus, first_other, with_sign_first, no_sign_first}
use Rattle.listing_lines.proofs.number_in.Goals as goal

pub returns-in-Some : goal.returns-in-Some
returns-in-Some c =
    let l = c.args.text.now in
    let h = c.in-Some.ensures.cases in
    c.whole.ensures ∙ ap (λ (x : List ℕ). with_sign true (digits_of x)) h.1 ∙ sym (with_sign_first l (first_minus l h.0))

pub returns-in-None : goal.returns-in-None
returns-in-None c =
    let l = c.args.text.now in
    c.whole-in-None.ensures ∙ sym (no_sign_first l (first_other l c.in-None.ensures.cases))
