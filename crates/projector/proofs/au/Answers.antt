-- `au` makes a count a double and divides it once by ten million.
-- 10000000.0 is the double of ten million, by its bits.
use mathlib.Core.Path.{◌≡◌, refl}
use lib.IntN.{pos}
use lib.Ieee.{binary64, of_int, of_bits, div}
use Rattle.integers.proofs.Cast.{back}
use Rattle.projector.proofs.au.Goals as goal

ten_million : of_bits binary64 0x4163_12d0_0000_0000 ≡ of_int binary64 (pos 10000000)
unfolding of_bits of_int
ten_million = refl

pub returns : goal.returns
returns c = (λ i. div binary64 (of_int binary64 (back c.args.n c.ranges.n i)) (ten_million i))
