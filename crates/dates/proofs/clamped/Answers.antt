-- `clamped` puts a number beyond 10^14 either way on that end.
-- The library's clamp takes the smaller first and then the larger; by the two tests, of the number read back.
use mathlib.Core.Bool.{Bool, false, true}
use mathlib.Core.Path.{◌≡◌, refl, ap, ◌∙◌}
use lib.IntN.{ℤ, pos, negsuc}
use lib.Signed.{lt_z}
use Rattle.std.specs.Int.{int_max, int_min}
use Rattle.integers.proofs.Cast.{read, back, back_ok}
use Rattle.integers.proofs.Difference.{zarith}
use Rattle.dates.specs.Reach.{clamped}
use Rattle.dates.proofs.clamped.Goals as goal

clamp_is : (z : ℤ) → int_max (negsuc 99999999999999) (int_min z (pos 100000000000000)) ≡ clamped z
clamp_is z = go (lt_z (pos 100000000000000) z) (lt_z z (negsuc 99999999999999)) refl refl
  where
    go : (above below : Bool) → lt_z (pos 100000000000000) z ≡ above → lt_z z (negsuc 99999999999999) ≡ below → int_max (negsuc 99999999999999) (int_min z (pos 100000000000000)) ≡ clamped z
    go true true e f = absurd (omega zarith)
    go true false e f = rw (e, f) refl
    go false true e f = rw (e, f) refl
    go false false e f = rw (e, f) refl

pub returns : goal.returns
returns c = back_ok c.clamp.result c.clamp.type_inv ∙ c.clamp.ensures.value ∙ clamp_is (read c.args.m) ∙ ap clamped (back c.args.m c.ranges.m)

pub clamp-requires : goal.clamp-requires
clamp-requires c = omega zarith
