-- `to_angle` divides an element's count by 100 with floor.
-- The count is read back before and after the call of `floor_div`.
use borrow.Author.Rules.{rules}
use mathlib.Core.Path.{◌≡◌, ap, ◌∙◌}
use lib.IntN.{ℤ}
use Rattle.integers.specs.Floor.{floor_div}
use Rattle.integers.proofs.Cast.{read, back_ok}
use Rattle.angles.proofs.Element.to_angle.Goals as goal
use Rattle.angles.proofs.Element.to_angle.Goals.{Start}

self_is : (c : Start) → read c.args.self.0 ≡ c.args.self.0
self_is c = search rules

pub returns : goal.returns
returns c = back_ok c.floor_div.result c.floor_div.type_inv ∙ c.floor_div.ensures ∙ ap (λ (z : ℤ). floor_div z 100) (self_is c.before.before)
