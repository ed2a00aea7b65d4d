-- `first_hit` finds how many dates pass before the first hit, if there is one.
-- None of the first k dates is a hit, and `before` is the cross product of the last of them.
use mathlib.Core.Path.{◌≡◌}
use Rattle.integers.proofs.First.{NoneBelow}
use Rattle.tables.specs.Bodies.{body_number}
use Rattle.viewing.specs.Hit.{is_hit}
use Rattle.viewing.proofs.Hits.{cross_before}
use Rattle.viewing.proofs.first_hit.Given as goal

abbrev pub invariant-loop-k : goal.invariant-loop-k
invariant-loop-k l = record {
  none_before : NoneBelow (is_hit l.walk.table (body_number l.planet) l.walk.first l.walk.step) l.k;
  cross_is : l.before ≡ cross_before l.walk.table (body_number l.planet) l.walk.first l.walk.step l.k;
}
