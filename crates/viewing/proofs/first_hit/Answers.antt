-- `first_hit` finds how many dates pass before the first hit, if there is one.
-- None of the first k dates is a hit, and `before` is the cross product of the last of them.
use borrow.Author.Rules.{rules}
use mathlib.Core.Bool.{Bool}
use mathlib.Core.Path.{◌≡◌, sym, ap, subst₂, ◌∙◌}
use Prim.Native.Nat.{ℕ}
use native.Mathlib.Numerals.{add-one}
use native.Mathlib.Omega.{arith}
use Rattle.integers.specs.Sign.{opposite_signs}
use Rattle.integers.proofs.Cast.{read, back_ok}
use Rattle.integers.proofs.First.{none_more, is_first, is_none}
use Rattle.tables.specs.Table.{OnTable}
use Rattle.tables.specs.Bodies.{body_number}
use Rattle.tables.proofs.Laws.{table_read}
use Rattle.viewing.specs.declared.Aspect.{Aspect}
use Rattle.viewing.specs.Hit.{aspect_at, hit_if, minute_at, is_hit}
use Rattle.viewing.proofs.Hits.{cross_before, hit_by}
use Rattle.viewing.proofs.first_hit.Goals as goal
use Rattle.viewing.proofs.first_hit.Goals.{After-is_hit, After-minute, Start}

abbrev hits : Start → ℕ → Bool
hits s k = is_hit s.args.walk.table (body_number s.args.planet) s.args.walk.first s.args.walk.step k

pub minute-requires : goal.minute-requires
minute-requires c = omega (arith, c.args.walk.fits.count_small)

-- date k, as the machine reads it back, lies in the table's interval
minute_is : (c : After-minute) → read c.minute.result ≡ minute_at c.args.walk.first c.args.walk.step c.loop-k.k
minute_is c = back_ok c.minute.result c.minute.type_inv ∙ c.minute.ensures

pub invariant_of-moment : goal.invariant_of-moment
invariant_of-moment c =
    let inside = c.args.walk.fits.each c.loop-k.k (omega arith) in
    record { on_table = subst₂ OnTable (sym (table_read inside)) (sym (minute_is (goal.at.invariant_of-moment c).After-minute)) inside }

aspect_is : (c : After-is_hit) → c.aspect_at-aspect.result ≡ aspect_at c.args.walk.table (body_number c.args.planet) (minute_at c.args.walk.first c.args.walk.step c.loop-k.k)
aspect_is c =
    let inside = c.args.walk.fits.each c.loop-k.k (omega arith) in
    c.aspect_at-aspect.ensures ∙ (λ i. aspect_at (table_read inside i) (body_number c.args.planet) (minute_is (goal.at.After-is_hit c).After-minute i))

-- the test of date k is the definition's
told : (c : After-is_hit) → hits (goal.at.After-is_hit c).Start c.loop-k.k ≡ c.is_hit.result
told c =
    let a = aspect_is c in
    sym (c.is_hit.ensures ∙ (λ j. hit_if (opposite_signs (a j).cross (c.loop-k.invariant.cross_is j)) (a j)) ∙ hit_by c.args.walk.table (body_number c.args.planet) c.args.walk.first c.args.walk.step c.loop-k.k)

pub returns-then-is_hit : goal.returns-then-is_hit
returns-then-is_hit c =
    let at = goal.at.returns-then-is_hit c in
    let k = c.loop-k.k in
    is_first (hits at.Start) c.args.walk.count k (record { picked = told at.After-is_hit ∙ c.if-is_hit.true; none_before = c.loop-k.invariant.none_before }) (omega arith)
    ∙ sym (add-one k)

cross_is : (c : After-is_hit) → read c.aspect_at-aspect.result.cross ≡ c.aspect_at-aspect.result.cross
cross_is c = search rules

pub loop-k-preserved : goal.loop-k-preserved
loop-k-preserved c =
    let at = goal.at.loop-k-preserved c in
    let k = c.loop-k.k in
    let none = none_more (hits at.Start) k c.loop-k.invariant.none_before (told at.After-is_hit ∙ c.if-is_hit.false) in
    let cross = cross_is at.After-is_hit ∙ ap (λ (a : Aspect). a.cross) (aspect_is at.After-is_hit) in
    record {
      none_before = λ j l. none j (omega arith);
      cross_is = cross ∙ ap (cross_before c.args.walk.table (body_number c.args.planet) c.args.walk.first c.args.walk.step) (sym (add-one k));
    }

pub returns : goal.returns
returns c = is_none (hits (goal.at.returns c).Start) c.args.walk.count (λ j l. c.loop-k.invariant.none_before j (omega arith))
