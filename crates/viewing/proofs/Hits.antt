-- Whether a date is a hit, by its own aspect and the cross product of the date before it, for which 0 stands before the first date.
-- 0 is opposite to nothing.
use mathlib.Core.Bool.{Bool}
use mathlib.Core.Path.{◌≡◌, refl, sym, ap}
use Prim.Native.Nat.{ℕ, zero, suc}
use lib.IntN.{ℤ, pos}
use Rattle.integers.specs.Sign.{opposite_signs}
use Rattle.integers.proofs.Same.{zero_opposite}
use Rattle.viewing.specs.Hit.{aspect_at, hit_if, minute_at, changed_at, is_hit}

module _ (table body first step : ℤ) where
  abbrev pub cross_before : ℕ → ℤ
  cross_before zero = pos 0
  cross_before (suc k) = (aspect_at table body (minute_at first step k)).cross

  changed_by : (k : ℕ) → changed_at table body first step k ≡ opposite_signs (aspect_at table body (minute_at first step k)).cross (cross_before k)
  changed_by zero = sym (zero_opposite (aspect_at table body (minute_at first step zero)).cross)
  changed_by (suc k) = refl

  pub hit_by : (k : ℕ) → hit_if (opposite_signs (aspect_at table body (minute_at first step k)).cross (cross_before k)) (aspect_at table body (minute_at first step k)) ≡ is_hit table body first step k
  unfolding is_hit
  hit_by k = ap (λ (b : Bool). hit_if b (aspect_at table body (minute_at first step k))) (sym (changed_by k))
