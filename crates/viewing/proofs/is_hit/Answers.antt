-- `is_hit` says whether a date of an aspect is a hit, after one of a given cross product.
-- Each test of the code is a part of the definition's; equality goes by bits (integers, Same).
use borrow.Author.Rules.{rules}
use mathlib.Core.Bool.{◌&&◌, ◌||◌}
use mathlib.Core.Path.{◌≡◌, ◌∙◌}
use native.Mathlib.Omega.{arith}
use lib.IntN.{pos}
use lib.Signed.{lt_z}
use mir.Syntax.{w64}
use mir.Val.{SFits}
use Rattle.integers.specs.Sign.{opposite_signs}
use Rattle.integers.proofs.Cast.{read, back, pos_fits}
use Rattle.integers.proofs.Same.{bits_tell}
use Rattle.viewing.proofs.is_hit.Goals as goal
use Rattle.viewing.proofs.is_hit.Goals.{Start}

module _ (s : Start) where
  dot_is : read s.args.aspect.dot ≡ s.args.aspect.dot
  dot_is = search rules

  cross_fits : SFits w64 s.args.aspect.cross
  cross_fits = search rules

pub returns : goal.returns
returns c =
    let s = c.before.before.before.before in
    let dot = dot_is s in
    let zero = bits_tell s.args.aspect.cross (pos 0) (cross_fits s) (pos_fits 0 (omega arith)) in
    let turned = c.opposite_signs.ensures ∙ (λ i. opposite_signs (back s.args.aspect.cross (cross_fits s) i) (back s.args.before s.ranges.before i)) in
    λ i. lt_z (pos 0) (dot i) && (zero i || turned i)
