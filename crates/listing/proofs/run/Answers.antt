-- `run` feeds read after read, and then finishes: all that was read is printed.
-- The reads end at the end of the input, or after 2^64 - 1 of at least one byte each.
use Rattle.std.proofs.Common.{arith, ◌++◌, [], take, refl, length-append}
use mathlib.Core.Logic.{inl, inr}
use Rattle.std.specs.Io.KnownBytes.{Appends}
use Rattle.listing_lines.specs.Held.{held_of}
use Rattle.listing_lines.specs.Stream.{last_of, held_after, printed_after}
use Rattle.listing.proofs.Sending.{consumes_none, consumes_then, on_ok, sends_none, turn_held, turn_sends, all_printed}
use Rattle.listing.proofs.run.Goals as goal
use Rattle.listing.proofs.run.Goals.{else-loop-turn-test, then-loop-turn-test+in_ok-read_some+then-not-branch}

pub loop-turn-init : goal.loop-turn-init
unfolding held_after printed_after
loop-turn-init g c = rw (c.new-held.ensures, c.new-ready.ensures) (
  [],
  consumes_none (g.R.Read.remaining c.args.input.now),
  refl,
  sends_none (g.W.Write.contents c.args.output.now) [],
  omega arith,
)

pub loop-turn-preserved : goal.loop-turn-preserved
loop-turn-preserved g c =
    let v = c.loop-turn.invariant in
    let t = c.in_ok-read_some.ensures in (
      v.0 ++ t.block,
      consumes_then (g.R.Read.remaining c.args.input.now) (g.R.Read.remaining c.loop-turn.input) (g.R.Read.remaining c.read_some.new.input) v.0 t.block v.1 t.read,
      turn_held t v.0 v.2,
      turn_sends t v.0 v.2 v.3,
      omega (arith, v.4, t.some c.if-not-branch.false, length-append v.0 t.block),
    )

pub returns : goal.returns
returns g c =
    let v = c.loop-turn.invariant in
    let now = c.loop-turn in
    let start = g.R.Read.remaining c.args.input.now in
    let before = g.W.Write.contents c.args.output.now in
    let after = g.W.Write.contents c.finish.new.output in
    let end = c.loop-turn-test in
    on_ok c.finish.result
    (λ (w : Appends (g.W.Write.contents end.output) after (take end.ready.len end.ready.bytes ++ last_of (held_of end.held))).
    elim c.loop-turn-test.branch [
      | else-loop-turn-test z ↦
          let x = rw (z.output-is, z.held-is, z.ready-is) at w in
          all_printed start (g.R.Read.remaining now.input) before (g.W.Write.contents now.output) after v.0 (held_of now.held) (take now.ready.len now.ready.bytes) v.1 v.2 v.3 (inl (omega (arith, z.loop-turn-test, v.4))) x
      | then-loop-turn-test+in_ok-read_some+then-not-branch z ↦
          let x = rw (z.output-is, z.held-is, z.ready-is) at w in
          let t = z.in_ok-read_some.ensures in
          let read = z.read_some.new in
          all_printed start (g.R.Read.remaining read.input) before (g.W.Write.contents read.output) after (v.0 ++ t.block) (held_of read.held) (take read.ready.len read.ready.bytes) (consumes_then start (g.R.Read.remaining now.input) (g.R.Read.remaining read.input) v.0 t.block v.1 t.read) (turn_held t v.0 v.2) (turn_sends t v.0 v.2 v.3) (inr (t.end z.if-not-branch.true)) x
    ])
    c.finish.ensures
