-- `drift` is floor(rate m / 52,596,000), the product past 64 bits.
-- By what `mul_div` ensures, of the numbers read back; the bounds keep each of its steps within 64 bits.
use mathlib.Core.Path.{◌∙◌}
use lib.IntN.{◌*ℤ◌}
use Rattle.integers.specs.Floor.{floor_div}
use Rattle.integers.proofs.Difference.{zarith}
use Rattle.integers.proofs.Cast.{back_ok}
use Rattle.integers.proofs.Number.{known, w_read, split_fits}
use Rattle.dates.specs.Minute.{drift_of}
use Rattle.dates.proofs.drift.Goals as goal

pub mul_div-requires : goal.mul_div-requires
mul_div-requires c = record { pos_bound = omega zarith; split_fits = split_fits 52596000 (w_read c.requires.rate_fits tt) (w_read c.requires.minute_fits tt) tt tt }

pub returns : goal.returns
unfolding drift_of
returns c =
    let s = c.before in
    back_ok c.mul_div.result c.mul_div.type_inv ∙ c.mul_div.ensures
    ∙ (λ i. floor_div ((known s.requires.rate_fits tt).is i *ℤ (known s.requires.minute_fits tt).is i) 52596000)
