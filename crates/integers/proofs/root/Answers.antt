-- `root` is the definition's root. The invariant of both loops is `Round`, which each arm of a round keeps; the first loop passes over
-- the rounds that set no bit. Both count `to_go` down, so that together they have at most 32 rounds.
use mathlib.Core.Path.{◌≡◌}
use Prim.Native.Nat.{ℕ, ◌/◌, ◌<◌}
use native.Mathlib.Omega.{arith}
use Rattle.integers.specs.Root.{root_of}
use Rattle.integers.proofs.Roots.{root_is}
use Rattle.integers.proofs.Rounds.{Round, start, fits, set, unset, done, to_go, one_less}
use Rattle.integers.proofs.root.Goals as goal
use Rattle.integers.proofs.root.Goals.{then-rest-taken, else-rest-taken}

-- a round is one less to go
fewer : {x rest held bit : ℕ} → Round x rest held bit → 0 < bit → to_go (bit / 4) < to_go bit
fewer {bit = bit} t h = let l = fits t h in let e = one_less bit h (omega arith) in omega arith

pub loop-bit-init : goal.loop-bit-init
loop-bit-init c = start c.args.x

pub loop-bit-smaller : goal.loop-bit-smaller
loop-bit-smaller c = fewer c.before.loop-bit.invariant (omega arith)

pub loop-bit-preserved : goal.loop-bit-preserved
loop-bit-preserved c = unset c.before.loop-bit.invariant (omega arith) (omega arith)

pub loop-bit-2-init : goal.loop-bit-2-init
loop-bit-2-init c = c.before.loop-bit.invariant

pub overflow_add-taken : goal.overflow_add-taken
overflow_add-taken c = record { fits = fits c.before.loop-bit-2.invariant (omega arith) }

pub overflow_sub-held : goal.overflow_sub-held
overflow_sub-held c = omega arith

pub loop-bit-2-smaller : goal.loop-bit-2-smaller
loop-bit-2-smaller c = fewer c.before.before.loop-bit-2.invariant (omega arith)

pub loop-bit-2-preserved : goal.loop-bit-2-preserved
loop-bit-2-preserved c =
    let t = c.before.before.loop-bit-2.invariant in
    let h : 0 < c.before.before.loop-bit-2.bit = omega arith in
    elim c.if-rest-taken.branch [
      | then-rest-taken w ↦ rw (w.rest-is, w.held-is) (unset t h w.if-rest-taken.true)
      | else-rest-taken w ↦ rw (w.rest-is, w.held-is) (set t h w.if-rest-taken.false)
    ]

pub returns : goal.returns
returns c =
    let l = c.before in
    let x = l.before.before.before.args.x in
    let z : l.loop-bit-2.bit ≡ 0 = omega arith in
    let e : l.loop-bit-2.held ≡ root_of x = done (rw z at l.loop-bit-2.invariant) in
    record { root = rw e (root_is x l.before.before.before.ranges.x.fits); value = e }
