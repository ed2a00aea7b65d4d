-- `coordinate` is one coordinate of step 5: the sum of two products, its turn ended.
-- By the numbers with bounds of `integers`.
use mathlib.Core.Path.{ap, ◌∙◌}
use Prim.Native.Nat.{◌*◌}
use lib.IntN.{◌*ℤ◌}
use Rattle.integers.specs.Floor.{end_turn}
use Rattle.integers.proofs.Cast.{read, back_ok}
use Rattle.integers.proofs.Number.{Num, known, mul, mul_fits, add, add_fits}
use Rattle.orbits.proofs.coordinate.Goals as goal
use Rattle.orbits.proofs.coordinate.Goals.{Start}

px : (c : Start) → Num (read (read c.args.p *ℤ read c.args.x)) (c.args.p *ℤ c.args.x) (1000000010 * 500000000)
px c = mul (known c.requires.within.0 tt) (known c.requires.within_2.0 tt) tt

qy : (c : Start) → Num (read (read c.args.q *ℤ read c.args.y)) (c.args.q *ℤ c.args.y) (1000000010 * 450000000)
qy c = mul (known c.requires.within.1 tt) (known c.requires.within_2.1 tt) tt

pub overflow_mul-p : goal.overflow_mul-p
overflow_mul-p c = mul_fits (known c.requires.within.0 tt) (known c.requires.within_2.0 tt) tt

pub overflow_mul-q : goal.overflow_mul-q
overflow_mul-q c = mul_fits (known c.requires.within.1 tt) (known c.requires.within_2.1 tt) tt

pub overflow_add-p : goal.overflow_add-p
overflow_add-p c = add_fits (px c) (qy c) tt

pub returns : goal.returns
returns c =
    back_ok c.end_turn.result c.end_turn.type_inv ∙ c.end_turn.ensures ∙ ap end_turn (add (px c.before) (qy c.before) tt).is
