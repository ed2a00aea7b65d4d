-- `solve` refuses exactly the eccentricities that are none, and solves for every other.
-- The test of the code is the definition's; what the definition answers is what document 01 asks for (Demand).
use mathlib.Core.Path.{◌≡◌, subst, sym, ap, ◌∙◌}
use Prim.Native.Nat.{ℕ, ◌≤◌}
use native.Mathlib.Omega.{arith}
use lib.IntN.{ℤ, pos, nat_abs}
use Rattle.integers.proofs.Cast.{read, back_ok, cast_fits}
use Rattle.integers.proofs.Ranges.{inside_of, outside_of, range_size, range_most}
use Rattle.angles.specs.Unit.{hundred_millionths, millionths, angle_of}
use Rattle.std.specs.Prelude.{Result, Ok}
use Rattle.refusals.specs.declared.Refusal.{Refusal}
use Rattle.angles.specs.declared.Angle.{Angle}
use Rattle.kepler.specs.Equation.{Elliptic}
use Rattle.kepler.specs.Eccentric.{eccentric}
use Rattle.kepler.specs.Answer.{is_elliptic, solved_of, Answers}
use Rattle.kepler.proofs.Demand.{none_refused, refused_otherwise, answers_as_asked}
use Rattle.kepler.proofs.solve.Goals as goal
use Rattle.kepler.proofs.solve.Goals.{After-hundred_millionths-count, After-is_from_to, Else-not-is_from_to}

-- both promises from the first
both : (e M : ℤ) {r : Result Angle Refusal} → r ≡ solved_of e M → (r ≡ solved_of e M) × Answers e M r
both e M x = (x, subst (Answers e M) (sym x) (answers_as_asked e M))

abbrev e : After-hundred_millionths-count → ℤ
e c = hundred_millionths c.before.args.e

count_is : (c : After-hundred_millionths-count) → read c.hundred_millionths-count.result ≡ e c
count_is c = back_ok c.hundred_millionths-count.result c.hundred_millionths-count.type_inv ∙ c.hundred_millionths-count.ensures

test : (c : After-is_from_to) → is_elliptic (e c.before) ≡ c.is_from_to.result
test c = sym (c.is_from_to.ensures ∙ ap is_elliptic (count_is c.before))

pub returns-then-not-is_from_to : goal.returns-then-not-is_from_to
returns-then-not-is_from_to c =
    let d = c.before in
    let s = d.before in
    let M = millionths s.before.args.mean in
    let none = outside_of (pos 0) (pos 90000000) (e s) (test d ∙ c.if-not-is_from_to.true) in
    let b = both (e s) M (sym (refused_otherwise (e s) M none)) in
    record { value = b.0; answers = b.1 }

-- past the test e is an eccentricity
within : (c : Else-not-is_from_to) → Elliptic (e c.before.before)
within c = inside_of (pos 0) (pos 90000000) (e c.before.before) (test c.before ∙ c.if-not-is_from_to.false)

pub overflow_cast-count : goal.overflow_cast-count
overflow_cast-count c =
    let s = c.before.before in
    let n = range_most 0 (e s) (within c) in
    cast_fits (count_is s) (within c).low (omega arith)

-- the eccentricity as the callee has it
cast_is : (c : Else-not-is_from_to) → nat_abs (read c.before.before.hundred_millionths-count.result) ≡ nat_abs (e c.before.before)
cast_is c = ap nat_abs (count_is c.before.before)

pub eccentric-requires : goal.eccentric-requires
eccentric-requires c =
    let s = c.before.before in subst (λ (n : ℕ). n ≤ 90000000) (sym (cast_is c)) (range_most 0 (e s) (within c))

pub returns : goal.returns
returns c =
    let d = c.before in
    let s = d.before.before in
    let M = millionths s.before.args.mean in
    let b = both (e s) M
    (ap (λ (z : ℤ). Ok (angle_of z)) (c.eccentric.ensures.result_value ∙ ap (λ (n : ℕ). eccentric (pos n) M) (cast_is d) ∙ ap (λ (z : ℤ). eccentric z M) (range_size 0 (e s) (within d)))
    ∙ sym (none_refused (e s) M (within d))) in
    record { value = b.0; answers = b.1 }
