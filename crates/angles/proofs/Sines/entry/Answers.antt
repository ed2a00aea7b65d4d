-- `entry` reads the rule's entry n out of the table.
-- The table's list is `sine_entries`, and each entry of `sine_entries` follows the rule.
use mathlib.Core.Path.{ap, ◌∙◌}
use mathlib.Core.List.{List}
use Prim.Native.Nat.{ℕ}
use native.Mathlib.Omega.{arith}
use lib.ListN.{get_or}
use Rattle.angles.specs.Sines.{sine_entries}
use Rattle.angles.proofs.Facts.{ruled}
use Rattle.angles.proofs.Sines.entry.Goals as goal

pub returns : goal.returns
unfolding sine_entries
returns c = c.from.ensures ∙ ap (λ (l : List ℕ). get_or l c.args.n 0) c.args.self.now.ruled ∙ ruled c.args.n (omega arith)
