-- `finish` writes what is ready, and behind it the last line.
-- There is room for a line where at most 27,904 bytes are ready.
use Rattle.std.proofs.Common.{ℕ, List, arith, take, subst}
use Rattle.std.specs.Io.KnownBytes.{Appends}
use Rattle.listing_lines.specs.Held.{held_of}
use Rattle.listing_lines.specs.Put.{Put}
use Rattle.listing_lines.specs.Stream.{last_of}
use Rattle.listing.proofs.Sending.{on_ok, sends_all, put_behind}
use Rattle.listing.proofs.finish.Goals as goal

pub returns : goal.returns
returns g c =
    let room = c.make_room.new.self in
    let mid = g.W.Write.contents c.make_room.new.output in
    let after = g.W.Write.contents c.write_all.new.self in
    let last = last_of (held_of c.args.held.now) in
    let end = c.put_last-end in
    let put = subst (λ (line : List ℕ). Put room.len (last_of line) room.bytes end.new.bytes end.result) c.bytes.ensures end.ensures.0 in
    on_ok c.write_all.result
    (λ (w : Appends mid after (take end.result end.new.bytes)).
    sends_all after last c.in_ok-make_room.ensures.sent (subst (Appends mid after) (put_behind (omega (arith, room.few, room.room)) put) w))
    c.write_all.ensures.bytes
