-- `search_for` is the answer of the search on a walk.
-- The search's place is the definition's, and by it the date is found, or none is.
use mathlib.Core.Path.{sym, ap, ◌∙◌}
use Prim.Native.Nat.{◌<◌}
use native.Mathlib.Numerals.{add-one}
use native.Mathlib.Omega.{arith}
use Rattle.std.specs.Prelude.{Ok}
use Rattle.integers.proofs.Cast.{back_ok}
use Rattle.integers.proofs.First.{first_most}
use Rattle.tables.specs.Bodies.{body_number}
use Rattle.viewing.specs.Hit.{is_hit}
use Rattle.viewing.specs.Viewing.{ended, found_at}
use Rattle.viewing.proofs.search_for.Goals as goal
use Rattle.viewing.proofs.search_for.Goals.{In-Some}

pub returns-in-None : goal.returns-in-None
returns-in-None c = ap (found_at c.args.walk.first c.args.walk.step c.args.walk.count) (sym c.in-None.ensures)

-- the hit is one of the dates of the walk
most : (c : In-Some) → c.in-Some.passed < 4000
most c =
    let w = c.args.walk in
    omega (arith, c.in-Some.ensures, first_most (is_hit w.table (body_number c.args.planet) w.first w.step) w.count, w.fits.count_small)

pub overflow_add-result : goal.overflow_add-result
overflow_add-result c = record { fits = omega (arith, most (goal.at.overflow_add-result c).In-Some) }

pub minute-requires : goal.minute-requires
minute-requires c = omega (arith, most (goal.at.minute-requires c).In-Some)

pub returns-in-Some : goal.returns-in-Some
returns-in-Some c =
    let w = c.args.walk in
    let passed = c.in-Some.passed in
    let m = back_ok c.minute.result c.minute.type_inv ∙ c.minute.ensures in
    (λ i. ended (Ok (m i)) (add-one passed i)) ∙ ap (found_at w.first w.step w.count) (sym (c.in-Some.ensures ∙ add-one passed))
