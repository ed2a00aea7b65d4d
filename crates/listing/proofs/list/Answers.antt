-- `list` writes the header, and then the lines of the input.
-- One lot of bytes behind another.
use Rattle.std.proofs.Common.{◌<◌, ◌-◌, ◌^◌, [], length, IfSome}
use Rattle.std.specs.Io.KnownBytes.{Appends}
use Rattle.listing_lines.specs.Stream.{lines_from}
use Rattle.listing.proofs.Sending.{on_ok, with_header}
use Rattle.listing.proofs.list.Goals as goal

pub returns : goal.returns
returns g c =
    let start = g.R.Read.remaining c.args.input.now in
    let mid = g.W.Write.contents c.write_all.new.self in
    let after = g.W.Write.contents c.run.new.output in
    on_ok c.run.result
    (λ (p : IfSome start (λ bytes. length bytes < 2 ^ 64 - 1 → Appends mid after (lines_from [] bytes))).
    with_header start (g.W.Write.contents c.args.output.now) mid after c.in_ok-write_all.ensures.bytes p)
    c.run.ensures
