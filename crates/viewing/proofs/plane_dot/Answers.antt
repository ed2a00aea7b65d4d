-- `plane_dot` is the sum of two products of parts that are at most 10^9.
-- Each product is at most 10^18, and both together fit (integers, Triples).
use Rattle.integers.proofs.Number.{mul_fits, add_fits, add}
use Rattle.integers.proofs.Triples.{part_num, parts_num}
use Rattle.viewing.proofs.plane_dot.Goals as goal

pub overflow_mul-result : goal.overflow_mul-result
overflow_mul-result c = let t = c.before.before in mul_fits (part_num t.requires.0 _) (part_num t.requires.1 _) tt

pub overflow_mul-result-2 : goal.overflow_mul-result-2
overflow_mul-result-2 c = let t = c.before.before.before.before in mul_fits (part_num t.requires.0 _) (part_num t.requires.1 _) tt

pub overflow_add-result : goal.overflow_add-result
overflow_add-result c = let t = c.before.before.before.before in add_fits (parts_num t.requires.0 t.requires.1 _ _) (parts_num t.requires.0 t.requires.1 _ _) tt

pub returns : goal.returns
returns c = let t = c.before.before.before.before in (add (parts_num t.requires.0 t.requires.1 0 0) (parts_num t.requires.0 t.requires.1 1 1) tt).is
