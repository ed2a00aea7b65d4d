-- `plane_cross` is the difference of two products of parts that are at most 10^9.
-- Each product is at most 10^18, and both together fit (integers, Triples).
use Rattle.integers.proofs.Number.{mul_fits, sub_fits, sub}
use Rattle.integers.proofs.Triples.{part_num, parts_num}
use Rattle.viewing.proofs.plane_cross.Goals as goal

pub overflow_mul-result : goal.overflow_mul-result
overflow_mul-result c = let t = c.before.before in mul_fits (part_num t.requires.0 _) (part_num t.requires.1 _) tt

pub overflow_mul-result-2 : goal.overflow_mul-result-2
overflow_mul-result-2 c = let t = c.before.before.before.before in mul_fits (part_num t.requires.0 _) (part_num t.requires.1 _) tt

pub overflow_sub-result : goal.overflow_sub-result
overflow_sub-result c = let t = c.before.before.before.before in sub_fits (parts_num t.requires.0 t.requires.1 _ _) (parts_num t.requires.0 t.requires.1 _ _) tt

pub returns : goal.returns
returns c = let t = c.before.before.before.before in (sub (parts_num t.requires.0 t.requires.1 0 1) (parts_num t.requires.0 t.requires.1 1 0) tt).is
