-- `take_block` feeds a block part by part.
-- What a part prints is put behind what is ready, and what of it was written before is no longer ready.
use Rattle.std.proofs.Common.{arith, ℕ, ◌++◌, List, [], take, refl, sym, ap, ◌∙◌}
use mathlib.Core.List.{append-nil, append_assoc}
use Rattle.std.specs.Slice.Iter.{chunks_rest, chunks_size}
use Rattle.listing_lines.specs.Held.{held_of}
use Rattle.listing_lines.specs.Stream.{held_after, printed_after}
use Rattle.listing.proofs.Sending.{sends_none, put_behind, part_held, part_sends}
use Rattle.listing.proofs.take_block.Goals as goal

pub loop-part-init : goal.loop-part-init
unfolding held_after printed_after
loop-part-init g c =
    let same = c.into_iter-part-iterator.ensures.into_iter_gives in (
      ap chunks_size same ∙ c.chunks-part-items.ensures.size,
      [],
      sym (ap chunks_rest same ∙ c.chunks-part-items.ensures.rest),
      refl,
      rw append-nil (sends_none (g.W.Write.contents c.args.output.now) (take c.args.ready.now.len c.args.ready.now.bytes)),
    )

pub loop-part-preserved : goal.loop-part-preserved
loop-part-preserved g c =
    let v = c.loop-part.invariant in
    let d = c.feed-ready.ensures in
    let line = held_of c.args.held.now in
    let done = v.1 in
    let part = c.in-Some.part.now in
    let step = c.in-Some.ensures.steps in
    let room = c.make_room.new.self in (
      step.0 ∙ v.0,
      done ++ part,
      v.2 ∙ ap (λ (l : List ℕ). done ++ l) step.1.0 ∙ sym (append_assoc done part _),
      d.fed.holds ∙ part_held line done part v.3,
      part_sends line done part v.3 (take c.args.ready.now.len c.args.ready.now.bytes) v.4 c.in_ok-make_room.ensures.sent (put_behind (omega (arith, room.few, room.room)) d.printed.prints),
    )
