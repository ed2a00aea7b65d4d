-- `hee` gives the rows of HEE: X is the unit vector of the Earth's (x, y, 0), Y is (-X2, X1, 0), Z is (0, 0, 10^9).
-- By what `on_ecliptic` and `unit` ensure; the parts of a unit vector are at most 10^9.
use mathlib.Core.Path.{◌≡◌, subst, sym, ap, ◌∙◌}
use mathlib.Core.List.{[], ◌∷◌}
use Prim.Native.Nat.{ℕ}
use lib.IntN.{pos}
use Rattle.integers.proofs.Cast.{read}
use Rattle.integers.proofs.Ring.{zero_minus}
use Rattle.integers.proofs.Number.{Num, known, lit, sub_fits, sub}
use Rattle.integers.specs.Triple.{at, PartsWithin}
use Rattle.vectors.specs.Vector.{unit_of}
use Rattle.frames.specs.Frame.{on_ecliptic, hee_of, hee_rows}
use Rattle.frames.proofs.Rows.{ecliptic_small, unit_of_place}
use Rattle.frames.proofs.hee.Goals as goal
use Rattle.frames.proofs.hee.Goals.{After-unit-x}

-- the call's X is the definition's, so its parts are small
X_is : (c : After-unit-x) → c.unit-x.result ≡ unit_of (on_ecliptic c.args.earth)
X_is c = c.unit-x.ensures ∙ ap unit_of c.on_ecliptic.ensures

X : (c : After-unit-x) (k : ℕ) → Num (read (at c.unit-x.result k)) (at c.unit-x.result k) 1000000000
X c k =
    known ((subst (PartsWithin 1000000000) (sym (X_is c)) (unit_of_place (on_ecliptic c.args.earth) (ecliptic_small c.args.earth c.requires))).part k) tt

pub overflow_sub-result : goal.overflow_sub-result
overflow_sub-result c = sub_fits (lit (pos 0)) (X (goal.at.overflow_sub-result c).After-unit-x 1) tt

pub returns : goal.returns
unfolding hee_rows
returns c =
    let s = (goal.at.returns c).After-unit-x in
    let r = s.unit-x.result in
    let y1 = (sub (lit (pos 0)) (X s 1) tt).is ∙ zero_minus (at r 1) in
    let y2 = (X s 0).is in
    (λ i. r ∷ (y1 i ∷ y2 i ∷ pos 0 ∷ []) ∷ (pos 0 ∷ pos 0 ∷ pos 1000000000 ∷ []) ∷ []) ∙ ap hee_of (X_is s)
