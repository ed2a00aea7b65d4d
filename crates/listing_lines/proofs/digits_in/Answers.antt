-- `digits_in` gives the number of one to ten digits, and nothing for any other text.
-- Invariant: what is left to read gives what the whole text gives, and the number so far is below 10^i after i bytes.
use mathlib.Core.Path.{sym, ◌∙◌}
use lib.ListN.{get_or}
use Rattle.listing_lines.proofs.Scan.{some, at_end, at_other, at_digit, digit_small, next_small}
use Rattle.listing_lines.proofs.digits_in.Goals as goal

pub returns-in_err-n : goal.returns-in_err-n
returns-in_err-n c =
    let l = c.args.text.now in
    let v = c.loop-b.invariant in
    c.from_residual.ensures ∙ sym (some l v.0 v.1 ∙ sym v.2 ∙ at_other l c.loop-b.n c.loop-b.b-index c.loop-b-test.true (sym c.in_err-n.ensures))

pub loop-b-preserved : goal.loop-b-preserved
loop-b-preserved c =
    let l = c.args.text.now in
    let n = c.loop-b.n in
    let i = c.loop-b.b-index in
    let d = c.in_ok-n.field-0 in
    let v = c.loop-b.invariant in (
      v.0,
      v.1,
      sym (at_digit l n i c.loop-b-test.true d (sym c.in_ok-n.ensures)) ∙ v.2,
      next_small n d i v.3 (digit_small (get_or l i 0) d (sym c.in_ok-n.ensures)),
    )

pub returns : goal.returns
returns c =
    let l = c.args.text.now in
    let v = c.loop-b.invariant in
    sym (some l v.0 v.1 ∙ sym v.2 ∙ at_end l c.loop-b.n c.loop-b.b-index c.loop-b-test.false)
