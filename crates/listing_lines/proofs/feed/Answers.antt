-- `feed` prints the lines that end in a part of the input, and holds what follows the last.
-- Invariant: of the bytes read the lines are printed, in at most 147 bytes for a byte, and the rest is held.
use Rattle.std.proofs.Common.{◌≡◌, ℕ, List, arith, rules, length, refl, subst, ◌∙◌}
use Rattle.listing_lines.specs.Put.{Put}
use Rattle.listing_lines.specs.Line.{printed_of}
use Rattle.listing_lines.proofs.Feeds.{fed_none, printed_none, fed_end, fed_other, prints_end, prints_other}
use Rattle.listing_lines.proofs.feed.Goals as goal
use Rattle.listing_lines.proofs.feed.Goals.{then-b-eq10, else-b-eq10}

pub loop-b-init : goal.loop-b-init
loop-b-init c =
    (fed_none c.args.held.now c.args.held.now.few, printed_none _ c.args.bytes.now c.args.at (omega (arith, c.requires)), refl)

pub loop-b-preserved : goal.loop-b-preserved
loop-b-preserved c =
    let v = c.loop-b.invariant in
    let i = c.loop-b.b-index in
    let l = c.args.part.now in
    let before = c.args.held.now in
    let now = c.loop-b.held in
    let within = c.loop-b-test.true in
    let long : length before.text ≡ 36 = search rules in
    elim c.if-b-eq10.branch [
      | then-b-eq10 w ↦
          let e = w.if-b-eq10.true in
          let printed = subst (λ (t : List ℕ). Put c.loop-b.next (printed_of t) c.loop-b.bytes w.put_held-next.new.bytes w.put_held-next.result)
          w.bytes.ensures w.put_held-next.ensures.0 in
          rw (w.held-is, w.bytes-is, w.next-is) (
            fed_end before now w.clear.new.self l i within v.0 e w.clear.ensures.len w.clear.ensures.text,
            prints_end before now w.clear.new.self l i within v.0 v.1 e (omega (arith, c.requires)) printed w.put_held-next.ensures.1,
            w.put_held-next.auto.bytes ∙ v.2,
          )
      | else-b-eq10 w ↦
          let e = w.if-b-eq10.false in
          rw (w.held-is, w.bytes-is, w.next-is) (
            fed_other before now w.push.new.self l i within v.0 e long w.push.ensures.len w.push.ensures.text,
            prints_other before now w.push.new.self l i within v.0 v.1 e,
            v.2,
          )
    ]
