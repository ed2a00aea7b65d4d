-- `root` is the definition's root. The invariant of both loops is `Round`, which each arm of a round keeps; the first loop passes over
-- the rounds that set no bit. Both count `to_go` down, so that together they have at most 32 rounds.
use Rattle.integers.proofs.Rounds.{Round, to_go}
use Rattle.integers.proofs.root.Given as goal

abbrev pub invariant-loop-bit : goal.invariant-loop-bit
invariant-loop-bit l = Round l.x l.x 0 l.bit

abbrev pub decreases-loop-bit : goal.decreases-loop-bit
decreases-loop-bit l = to_go l.bit

abbrev pub invariant-loop-bit-2 : goal.invariant-loop-bit-2
invariant-loop-bit-2 l = Round l.x l.rest l.held l.bit

abbrev pub decreases-loop-bit-2 : goal.decreases-loop-bit-2
decreases-loop-bit-2 l = to_go l.bit
