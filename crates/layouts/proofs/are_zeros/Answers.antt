-- `are_zeros` tells whether all of the numbers are 0.
-- By what std says of `all`: the closure's test is the definition's, of each number.
use mathlib.Core.Bool.{Bool, ◌&&◌}
use mathlib.Core.Path.{◌∙◌, refl}
use lib.IntN.{ℤ, pos}
use Rattle.std.proofs.Common.{rules, tests}
use Rattle.std.specs.List.{list_all}
use Rattle.std.proofs.lemmas.Iterator.{YieldsList-from_slice}
use Rattle.std.proofs.lemmas.Iterator.Search.{all_from_yields_List}
use Rattle.std.proofs.lemmas.List.Recursion.{same_from_clauses}
use Rattle.integers.specs.Sign.{same}
use Rattle.integers.proofs.Same.{bits_tell}
use Rattle.layouts.specs.Layout.{are_zeros}
use Rattle.layouts.proofs.are_zeros.Goals as goal

pub returns : goal.returns
returns c =
    let numbers = c.args.numbers.now in
    all_from_yields_List (λ (z : ℤ). same z (pos 0)) _ _ _ c.all.ensures.ran (YieldsList-from_slice numbers cc) (λ x b q k. search (rules, tests, bits_tell))
    ∙ same_from_clauses (list_all (λ (z : ℤ). same z (pos 0))) are_zeros (λ (z : ℤ) (b : Bool). same z (pos 0) && b) refl (λ _ _. refl) (λ _ _. refl) numbers
