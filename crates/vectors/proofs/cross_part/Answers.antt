-- `cross_part` is one part of the cross product of two vectors whose parts are at most 10^9.
-- Each product and their difference fit by these bounds; the floor is `floor_div`'s.
use mathlib.Core.Path.{ap, ◌∙◌}
use Prim.Native.Nat.{ℕ}
use lib.IntN.{ℤ, ◌*ℤ◌}
use Rattle.integers.specs.Floor.{floor_div}
use Rattle.integers.proofs.Cast.{read, back_ok}
use Rattle.integers.proofs.Number.{Num, mul_fits, sub_fits, sub}
use Rattle.integers.proofs.Triples.{part_num, parts_num}
use Rattle.integers.specs.Triple.{at}
use Rattle.vectors.proofs.cross_part.Goals as goal
use Rattle.vectors.proofs.cross_part.Goals.{Start}

-- a product of parts i and j
by : (t : Start) (i j : ℕ) → Num (read (read (at t.args.a i) *ℤ read (at t.args.b j))) (at t.args.a i *ℤ at t.args.b j) 1000000000000000000
by t = parts_num t.requires.parts_within t.requires.parts_within_2

pub overflow_mul-a : goal.overflow_mul-a
overflow_mul-a c = let t = c.before.before in mul_fits (part_num t.requires.parts_within t.args.i) (part_num t.requires.parts_within_2 t.args.j) tt

pub overflow_mul-a-2 : goal.overflow_mul-a-2
overflow_mul-a-2 c = let t = c.before.before.before.before in mul_fits (part_num t.requires.parts_within t.args.j) (part_num t.requires.parts_within_2 t.args.i) tt

pub overflow_sub-a : goal.overflow_sub-a
overflow_sub-a c = let t = c.before.before.before.before in sub_fits (by t t.args.i t.args.j) (by t t.args.j t.args.i) tt

pub returns : goal.returns
returns c =
    let t = c.before.before.before.before.before in
    back_ok c.floor_div.result c.floor_div.type_inv ∙ c.floor_div.ensures
    ∙ ap (λ (z : ℤ). floor_div z 1000000000) (sub (by t t.args.i t.args.j) (by t t.args.j t.args.i) tt).is
