-- `nearest` finds the grid point at which F is nearest to the target.
-- The loop keeps f lo ≤ target < f hi with the values at both ends; wherever the guess falls inside, the gap shrinks, and two
-- neighbours are left, of which the nearer is the answer.
use mathlib.Core.Path.{◌≡◌}
use Prim.Native.Nat.{◌+◌, ◌<◌}
use native.Mathlib.Omega.{arith}
use Rattle.kepler.specs.Search.{raised}
use Rattle.kepler.proofs.Rising.{bracket, short, take_low, take_high}
use Rattle.kepler.proofs.Climb.{raised_step, raised_zero, raised_end}
use Rattle.kepler.proofs.Grid.{rising}
use Rattle.kepler.proofs.Equation.nearest.Goals as goal

pub loop-hi-init : goal.loop-hi-init
loop-hi-init c =
    let z = raised_zero c.args.self.now.es in
    let e = raised_end c.args.self.now.es in
    omega arith

pub overflow_sub-hi : goal.overflow_sub-hi
overflow_sub-hi c = omega arith

pub inside-g-requires : goal.inside-g-requires
inside-g-requires c = omega arith

pub overflow_add-g : goal.overflow_add-g
overflow_add-g c = omega arith

pub tangent-guess-requires : goal.tangent-guess-requires
tangent-guess-requires c = omega arith

pub loop-hi-smaller-then-target-a : goal.loop-hi-smaller-then-target-a
loop-hi-smaller-then-target-a c = omega arith

pub loop-hi-preserved-then-target-a : goal.loop-hi-preserved-then-target-a
loop-hi-preserved-then-target-a c = omega arith

pub overflow_add-hi : goal.overflow_add-hi
overflow_add-hi c = omega arith

pub loop-hi-smaller-then-target-b : goal.loop-hi-smaller-then-target-b
loop-hi-smaller-then-target-b c = omega arith

pub loop-hi-preserved-then-target-b : goal.loop-hi-preserved-then-target-b
loop-hi-preserved-then-target-b c = omega arith

pub overflow_add-lo : goal.overflow_add-lo
overflow_add-lo c = omega arith

pub loop-hi-smaller : goal.loop-hi-smaller
loop-hi-smaller c = omega arith

pub loop-hi-preserved : goal.loop-hi-preserved
loop-hi-preserved c =
    let calls = c.before.before.before.before.before in
    let turn = calls.before.before.before in
    let l = short (raised turn.before.before.args.self.now.es) (calls.before.before.inside-g.result + 1) turn.before.loop-hi.hi turn.before.before.args.target (omega arith) (omega arith) (omega arith) in
    omega (arith, l)

pub overflow_sub-target : goal.overflow_sub-target
overflow_sub-target c = omega arith

pub overflow_sub-high : goal.overflow_sub-high
overflow_sub-high c = omega arith

pub returns-then-target-low : goal.returns-then-target-low
returns-then-target-low c =
    let at-loop = c.before.before in
    let start = at-loop.before in
    let es = start.args.self.now.es in
    let k = at-loop.loop-hi.invariant in
    let m : at-loop.loop-hi.hi ≡ at-loop.loop-hi.lo + 1 = omega arith in
    let s : raised es at-loop.loop-hi.hi < raised es at-loop.loop-hi.lo + 2000000000 = rw m (raised_step es at-loop.loop-hi.lo start.args.self.now.es_bound (omega arith)).less in
    let b = bracket (raised es) 360000000 start.args.target at-loop.loop-hi.lo at-loop.loop-hi.hi at-loop.loop-hi.low at-loop.loop-hi.high k in
    record { nearest = take_low (raised es) 360000000 (rising es start.args.self.now.es_bound) start.args.target at-loop.loop-hi.lo at-loop.loop-hi.hi b m (omega arith); result_bound = omega arith }

pub returns-else-target-low : goal.returns-else-target-low
returns-else-target-low c =
    let at-loop = c.before.before in
    let start = at-loop.before in
    let es = start.args.self.now.es in
    let k = at-loop.loop-hi.invariant in
    let m : at-loop.loop-hi.hi ≡ at-loop.loop-hi.lo + 1 = omega arith in
    let s : raised es at-loop.loop-hi.hi < raised es at-loop.loop-hi.lo + 2000000000 = rw m (raised_step es at-loop.loop-hi.lo start.args.self.now.es_bound (omega arith)).less in
    let b = bracket (raised es) 360000000 start.args.target at-loop.loop-hi.lo at-loop.loop-hi.hi at-loop.loop-hi.low at-loop.loop-hi.high k in
    record { nearest = take_high (raised es) 360000000 (rising es start.args.self.now.es_bound) start.args.target at-loop.loop-hi.lo at-loop.loop-hi.hi b m (omega arith); result_bound = omega arith }
