-- `read_some` reads a block and takes it; at the end of the input it takes nothing.
-- A read that gives no byte into a buffer with room is at the end.
use Rattle.std.proofs.Common.{arith, take}
use Rattle.listing_lines.specs.Held.{held_of}
use Rattle.listing.proofs.Sending.{no_turn}
use Rattle.listing.proofs.read_some.Goals as goal

pub returns-then-n-eq0 : goal.returns-then-n-eq0
returns-then-n-eq0 g c =
    let b = c.in_ok-n.ensures.bytes in
    no_turn (g.R.Read.remaining c.args.input.now) (g.R.Read.remaining c.read.new.self) (g.W.Write.contents c.args.output.now) (held_of c.args.held.now) (take c.args.ready.now.len c.args.ready.now.bytes) c.read.new.buf c.in_ok-n.n c.if-n-eq0.true b.0 (b.1 c.if-n-eq0.true (omega arith))
