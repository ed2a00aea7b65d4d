-- `put_numbers` leaves the numbers' bytes in fields of the widths given, and every byte after them as it was.
-- Invariant: i fields stand in the first `at` bytes, and what is still to come has its room (Seams).
use borrow.Author.Rules.{rules}
use mathlib.Core.Path.{◌≡◌, ◌∙◌}
use Prim.Native.Nat.{◌+◌, ◌-◌, ◌≤◌}
use native.Mathlib.Omega.{arith}
use lib.IntN.{pos}
use lib.ListN.{length, get_or}
use borrow.Rule.Slice.PartMut.{mid_of, mid_len}
use Rattle.integers.proofs.Cast.{read}
use Rattle.layouts.proofs.Seams.{seam_next, laid_more, laid_all}
use Rattle.layouts.proofs.put_numbers.Goals as goal

pub loop-i-preserved : goal.loop-i-preserved
loop-i-preserved c =
    let l = c.loop-i in
    let k = get_or c.args.widths.now l.i 0 in
    let z = get_or c.args.numbers.now l.i (pos 0) in
    let room : l.at + k ≤ length l.bytes = omega (arith, seam_next l.invariant.seam c.loop-i-test.true) in
    let width : length (mid_of l.at (l.at + k - l.at) l.bytes) ≡ k = mid_len l.at (l.at + k) l.bytes room ∙ omega arith in
    let held : read z ≡ z = search rules in
    laid_more l.invariant {ys = c.put_number.new.bytes} c.loop-i-test.true c.requires.widths_len (rw (c.put_number.ensures, width, c.bits_of.ensures, held))

pub returns : goal.returns
returns c = laid_all c.loop-i.invariant c.loop-i-test.false
