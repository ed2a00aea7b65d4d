-- `one_turn` brings an angle to one turn: its count is `within_turn`'s.
-- The count is read back before and after the call.
use borrow.Author.Rules.{rules}
use mathlib.Core.Path.{◌≡◌, ap, ◌∙◌}
use Rattle.integers.proofs.Cast.{read, back_ok}
use Rattle.angles.specs.Unit.{one_turn}
use Rattle.angles.proofs.Angle.one_turn.Goals as goal
use Rattle.angles.proofs.Angle.one_turn.Goals.{Start}

self_is : (c : Start) → read c.args.self.0 ≡ c.args.self.0
self_is c = search rules

pub returns : goal.returns
returns c = back_ok c.within_turn.result c.within_turn.type_inv ∙ c.within_turn.ensures ∙ ap one_turn (self_is c.before.before)
