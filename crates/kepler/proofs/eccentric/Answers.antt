-- `eccentric` gives the one angle that solves, which is the computing function's.
-- The nearest grid point solves (Grid), and only one number does (Demand).
use mathlib.Core.Path.{◌≡◌, subst, sym, ap, ◌∙◌}
use Prim.Native.Nat.{ℕ, ◌<◌, ◌≤◌}
use native.Mathlib.Omega.{arith}
use lib.Dec.{le→leb}
use lib.IntN.{pos}
use Rattle.integers.proofs.Cast.{read, back_ok}
use Rattle.angles.specs.Unit.{millionths, one_turn}
use Rattle.kepler.specs.Equation.{Candidate, Elliptic, Solves}
use Rattle.kepler.specs.Eccentric.{angle_at}
use Rattle.kepler.specs.Search.{point_of}
use Rattle.kepler.proofs.Grid.{solves}
use Rattle.kepler.proofs.Demand.{turned, point_of_turn, turn_below_end, only_one_solves}
use Rattle.kepler.proofs.eccentric.Goals as goal
use Rattle.kepler.proofs.eccentric.Goals.{After-grid_point-target, After-millionths-m, After-nearest-n, After-of_millionths}

m_is : (c : After-millionths-m) → read c.millionths-m.result ≡ one_turn (millionths c.before.before.args.mean)
m_is c = back_ok c.millionths-m.result c.millionths-m.type_inv ∙ c.millionths-m.ensures ∙ c.before.one_turn.ensures

pub grid_point-target-requires : goal.grid_point-target-requires
grid_point-target-requires c = subst Candidate (sym (m_is c)) (turned (millionths c.before.before.args.mean))

point : (c : After-grid_point-target) → c.grid_point-target.result ≡ point_of (one_turn (millionths c.before.before.before.args.mean))
point c = c.grid_point-target.ensures ∙ ap point_of (m_is c.before)

below : (c : After-grid_point-target) → c.grid_point-target.result < 360000000
below c = subst (λ (n : ℕ). n < 360000000) (sym (point c)) (turn_below_end (millionths c.before.before.before.args.mean))

pub overflow_mul-target : goal.overflow_mul-target
overflow_mul-target c = omega (arith, below c)

pub first_guess-requires : goal.first_guess-requires
first_guess-requires c = omega (arith, below (goal.at.first_guess-requires c).After-grid_point-target)

pub nearest-n-requires : goal.nearest-n-requires
nearest-n-requires c = omega (arith, below (goal.at.nearest-n-requires c).After-grid_point-target)

solved : (c : After-nearest-n) → Solves (pos c.before.before.before.before.before.before.before.before.args.e) (millionths c.before.before.before.before.before.before.before.before.args.mean) (angle_at c.nearest-n.result)
solved c =
    let p = c.before.before.before.before.before in
    let s = p.before.before.before in
    let M = millionths s.args.mean in
    solves s.args.e s.requires M p.grid_point-target.result (point_of_turn M ∙ ap angle_at (sym (point p))) c.nearest-n.result c.nearest-n.ensures.nearest c.nearest-n.ensures.result_bound

result : (c : After-of_millionths) → millionths c.of_millionths.result ≡ angle_at c.before.before.nearest-n.result
result c = c.of_millionths.ensures ∙ back_ok c.before.angle_at.result c.before.angle_at.type_inv ∙ c.before.angle_at.ensures

elliptic : (e : ℕ) → e ≤ 90000000 → Elliptic (pos e)
elliptic e h = record { low = record { le = le→leb 0 e (omega arith) }; high = record { le = le→leb e 90000000 h } }

pub returns : goal.returns
returns c =
    let s = c.before.before.before.before.before.before.before.before.before.before in
    let e = pos s.args.e in
    let M = millionths s.args.mean in
    let r = subst (Solves e M) (sym (result c)) (solved c.before.before) in
    record { result_value = only_one_solves e M (millionths c.of_millionths.result) (elliptic s.args.e s.requires) r; solves = r }
