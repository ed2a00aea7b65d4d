-- `put_numbers` leaves seven numbers, a space between two and a line end behind the last.
-- Invariant: the numbers before the next are put, each with a space behind it, in at most 21 bytes each.
use borrow.Author.Rules.{rules}
use mathlib.Core.List.{List, [], ◌∷◌, ◌++◌}
use mathlib.Core.Path.{◌≡◌, refl, sym, subst, ◌∙◌}
use Prim.Native.Nat.{ℕ}
use native.Mathlib.Omega.{arith}
use lib.IntN.{ℤ, pos}
use lib.ListN.{length, take, get_or, length-take}
use lib.Seq.{take_all}
use Rattle.integers.proofs.Cast.{read}
use Rattle.listing_lines.specs.Decimal.{signed_of}
use Rattle.listing_lines.specs.Put.{Put}
use Rattle.listing_lines.proofs.Puts.{put_none, put_then}
use Rattle.listing_lines.proofs.Texts.{spaced, spaced_more, seven}
use Rattle.listing_lines.proofs.put_numbers.Goals as goal

pub loop-n-init : goal.loop-n-init
unfolding spaced
loop-n-init c = (put_none c.args.bytes.now c.args.at (omega (arith, c.requires)), omega arith, refl)

pub loop-n-preserved : goal.loop-n-preserved
loop-n-preserved c =
    let v = c.loop-n.invariant in
    let i = c.loop-n.n-index in
    let l = take 6 c.args.numbers in
    let e : read (get_or l i (pos 0)) ≡ get_or l i (pos 0) = search rules in (
      subst (λ (t : List ℕ). Put c.args.at t c.args.bytes.now c.put_field-next.new.bytes c.put_field-next.result)
          (sym (spaced_more l i c.loop-n-test.true))
          (put_then (omega (arith, c.requires)) v.0
          (subst (λ (z : ℤ). Put c.loop-n.next (signed_of z ++ (32 ∷ [])) c.loop-n.bytes c.put_field-next.new.bytes c.put_field-next.result) e c.put_field-next.ensures.0)),
      omega (arith, c.put_field-next.ensures.1, v.1),
      c.put_field-next.auto.bytes ∙ v.2,
    )

pub returns : goal.returns
returns c =
    let v = c.loop-n.invariant in
    let l = c.args.numbers in
    let long : length l ≡ 7 = search rules in
    let e : read (get_or l 6 (pos 0)) ≡ get_or l 6 (pos 0) = search rules in (
      subst (λ (t : List ℕ). Put c.args.at t c.args.bytes.now c.put_field.new.bytes c.put_field.result)
          (sym (seven l long))
          (put_then (omega (arith, c.requires))
          (subst (λ (k : List ℤ). Put c.args.at (spaced k) c.args.bytes.now c.loop-n.bytes c.loop-n.next) (take_all c.loop-n.n-index (take 6 l) c.loop-n-test.false) v.0)
          (subst (λ (z : ℤ). Put c.loop-n.next (signed_of z ++ (10 ∷ [])) c.loop-n.bytes c.put_field.new.bytes c.put_field.result) e c.put_field.ensures.0)),
      omega (arith, c.put_field.ensures.1, v.1, length-take 6 l),
    )
