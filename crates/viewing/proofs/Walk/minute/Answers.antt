-- `minute` is the minute of a date of a walk.
-- Of 4,000 steps none leads further than 4·10^9 minutes.
use lib.IntN.{pos, ◌*ℤ◌}
use mir.Syntax.{w64}
use mir.Val.{to_z}
use Rattle.integers.proofs.Cast.{read}
use Rattle.integers.proofs.Number.{Num, known, of_unsigned, mul, mul_fits, add, add_fits}
use Rattle.viewing.proofs.Walk.minute.Goals as goal
use Rattle.viewing.proofs.Walk.minute.Goals.{Start}

module _ (s : Start) where
  first : Num (read s.args.self.first) s.args.self.first 2630000000
  first = known s.args.self.fits.first_near tt

  step : Num (read s.args.self.step) s.args.self.step 1000000
  step = known s.args.self.fits.step_small tt

  index : Num (to_z w64 s.args.k) (pos s.args.k) 4000
  index = of_unsigned s.requires tt

  offset : Num (read (read s.args.self.step *ℤ to_z w64 s.args.k)) (s.args.self.step *ℤ pos s.args.k) 4000000000
  offset = mul step index tt

pub overflow_mul-result : goal.overflow_mul-result
overflow_mul-result c = let s = (goal.at.overflow_mul-result c).Start in mul_fits (step s) (index s) tt

pub overflow_add-result : goal.overflow_add-result
overflow_add-result c = let s = (goal.at.overflow_add-result c).Start in add_fits (first s) (offset s) tt

pub returns : goal.returns
returns c = let s = (goal.at.returns c).Start in (add (first s) (offset s) tt).is
