-- What follows from a moment: where its minute lies, and when it is a refusal; that a minute as it is carried is enough; and that a
-- drift lies between those at the two ends of its minutes. A moment is a test of the exact sum, so its laws go by the test's outcome.
use mathlib.Core.Bool.{Bool, true, false, cond}
use mathlib.Core.Logic.{◌⊎◌, inl, inr}
use mathlib.Core.Path.{◌≡◌, refl, sym, ap, subst, ◌∙◌}
use Prim.Native.Nat.{ℕ, ◌*◌, ◌≤◌}
use native.Mathlib.Omega.{arith}
use lib.Dec.{T}
use lib.IntN.{ℤ, pos, negsuc, ◌+ℤ◌, ◌*ℤ◌, +ℤ_idr}
use lib.Signed.{lt_z, ◌≤ℤ◌, ◌<ℤ◌}
use Rattle.integers.specs.Range.{Within, FromTo}
use Rattle.integers.proofs.Difference.{zarith, d_add, d_abs}
use Rattle.integers.proofs.Ring.{pos_mono, neg_anti}
use Rattle.integers.proofs.Floor.{floor_mono}
use Rattle.integers.proofs.Ranges.{of_test, is_inside, is_outside, is_below, is_above, inside_of, range_within}
use Rattle.integers.proofs.Number.{w_mul, w_floor<}
use Rattle.refusals.specs.declared.Refusal.{Refusal}
use Rattle.refusals.specs.declared.Refusal.TheVariants.{NotFinite, OutsideInterval}
use Rattle.dates.specs.declared.Interval.{Interval}
use Rattle.dates.specs.Minute.{drift_of}
use Rattle.dates.specs.Moment.{Covers, covers, tested_if, tested, moment_at, is_step}
use Rattle.dates.specs.Reach.{clamped, held, Held, no_minute, near_minute, InReach}
use Rattle.std.specs.Prelude.{Err, None, Ok, Option, Some}

-- ---- the test of a minute, and what its outcome tells
module _ (interval : Interval) (m : ℤ) where
  pub by_test : (b : Bool) → covers interval m ≡ b → tested interval m ≡ tested_if b m
  unfolding tested
  by_test b e = ap (λ (c : Bool). tested_if c m) e

  pub inside : Covers interval m → tested interval m ≡ Ok m
  inside h = by_test true (is_inside interval.first interval.last m h)

  pub outside : (Covers interval m → ⊥) → tested interval m ≡ Err OutsideInterval
  outside n = by_test false (is_outside interval.first interval.last m n)

  tested_inside : (a : ℤ) → tested interval m ≡ Ok a → Covers interval a
  tested_inside a e = go (covers interval m) refl (sym (by_test (covers interval m) refl) ∙ e)
    where
      go : (b : Bool) → covers interval m ≡ b → tested_if b m ≡ Ok a → Covers interval a
      go true f e =
          let g : m ≡ a = cc in
          subst (Covers interval) g (inside_of interval.first interval.last m f)
      go false f e = let z : ◌≡◌ {A = ℕ} 0 1 = cc in absurd (omega arith)

  tested_is : (a : ℤ) → tested interval m ≡ Ok a → m ≡ a
  tested_is a e = go (covers interval m) (sym (by_test (covers interval m) refl) ∙ e)
    where
      go : (b : Bool) → tested_if b m ≡ Ok a → m ≡ a
      go true e = cc
      go false e = let z : ◌≡◌ {A = ℕ} 0 1 = cc in absurd (omega arith)

  tested_refused : (r : Refusal) → tested interval m ≡ Err r → r ≡ OutsideInterval
  tested_refused r e = go (covers interval m) (sym (by_test (covers interval m) refl) ∙ e)
    where
      go : (b : Bool) → tested_if b m ≡ Err r → r ≡ OutsideInterval
      go true e = let z : ◌≡◌ {A = ℕ} 0 1 = cc in absurd (omega arith)
      go false e = cc

-- ---- a minute and an offset: `a` is their sum
pub record IsSum (minute : Option ℤ) (offset a : ℤ) : Type 0 where
  pub start : ℤ
  pub at : minute ≡ Some start
  pub sum : start +ℤ offset ≡ a

module _ (interval : Interval) where
  pub not_finite : (offset : ℤ) → moment_at interval None offset ≡ Err NotFinite
  unfolding moment_at
  not_finite offset = refl

  pub at_sum : (m offset : ℤ) → moment_at interval (Some m) offset ≡ tested interval (m +ℤ offset)
  unfolding moment_at
  at_sum m offset = refl

  -- the offset goes into the minute
  pub sum_first : (m offset : ℤ) → moment_at interval (Some m) offset ≡ moment_at interval (Some (m +ℤ offset)) (pos 0)
  sum_first m offset = at_sum m offset ∙ ap (tested interval) (sym (+ℤ_idr (m +ℤ offset))) ∙ sym (at_sum (m +ℤ offset) (pos 0))

  -- a minute that is accepted lies in the interval
  pub accepted_inside : (minute : Option ℤ) (offset a : ℤ) → moment_at interval minute offset ≡ Ok a → Covers interval a
  accepted_inside None offset a h =
      let e = sym (not_finite offset) ∙ h in
      let z : ◌≡◌ {A = ℕ} 0 1 = cc in
      absurd (omega arith)
  accepted_inside (Some m) offset a h = tested_inside interval (m +ℤ offset) a (sym (at_sum m offset) ∙ h)

  -- and is the sum of a minute that there is and the offset
  pub accepted_is : (minute : Option ℤ) (offset a : ℤ) → moment_at interval minute offset ≡ Ok a → IsSum minute offset a
  accepted_is None offset a h =
      let e = sym (not_finite offset) ∙ h in
      let z : ◌≡◌ {A = ℕ} 0 1 = cc in
      absurd (omega arith)
  accepted_is (Some m) offset a h = record { start = m; at = refl; sum = tested_is interval (m +ℤ offset) a (sym (at_sum m offset) ∙ h) }

  -- there is no refusal but 1 and 2
  pub one_or_two : (minute : Option ℤ) (offset : ℤ) (r : Refusal) → moment_at interval minute offset ≡ Err r → (r ≡ NotFinite) ⊎ (r ≡ OutsideInterval)
  one_or_two None offset r h = let e = sym (not_finite offset) ∙ h in inl cc
  one_or_two (Some m) offset r h = inr (tested_refused interval (m +ℤ offset) r (sym (at_sum m offset) ∙ h))

-- ---- a step between dates
pub step_small : (step : ℤ) → T (is_step step) → Within 1000000 step
unfolding is_step
step_small step t = range_within (pos 1) (pos 1000000) step 1000000 (of_test (pos 1) (pos 1000000) step t) (omega arith) (omega arith)

-- ---- a minute as it is carried
clamp_within : (z : ℤ) → Within 100000000000000 (clamped z)
clamp_within z = go (lt_z z (negsuc 99999999999999)) (lt_z (pos 100000000000000) z) refl refl
  where
    go : (a b : Bool) → lt_z z (negsuc 99999999999999) ≡ a → lt_z (pos 100000000000000) z ≡ b → Within 100000000000000 (cond a (negsuc 99999999999999) (cond b (pos 100000000000000) z))
    go true b e f = record { within = omega arith }
    go false true e f = record { within = omega arith }
    go false false e f = by z e f
      where
        by : (z : ℤ) → lt_z z (negsuc 99999999999999) ≡ false → lt_z (pos 100000000000000) z ≡ false → Within 100000000000000 z
        by (pos n) e f = record { within = omega zarith }
        by (negsuc n) e f = record { within = omega zarith }

pub held_is : (minute : Option ℤ) → Held (held minute)
held_is None = no_minute
held_is (Some m) = near_minute (clamp_within m)

-- no interval in reach tells it from the exact one
pub held_enough : (interval : Interval) (minute : Option ℤ) (offset : ℤ) → InReach interval offset → moment_at interval (held minute) offset ≡ moment_at interval minute offset
held_enough interval None offset r = refl
held_enough interval (Some m) offset r =
    at_sum interval (clamped m) offset ∙ go (lt_z m (negsuc 99999999999999)) (lt_z (pos 100000000000000) m) refl refl ∙ sym (at_sum interval m offset)
  where
    low : (z : ℤ) → z ≤ℤ negsuc 99999999999999 → tested interval (z +ℤ offset) ≡ Err OutsideInterval
    low z h =
        let l : (z +ℤ offset) <ℤ interval.first = omega (zarith, h, d_add z offset, d_abs offset, d_abs interval.first, r.first_near.within, r.offset_near.within) in
        by_test interval (z +ℤ offset) false (is_below interval.first interval.last (z +ℤ offset) l)

    high : (z : ℤ) → pos 100000000000000 ≤ℤ z → tested interval (z +ℤ offset) ≡ Err OutsideInterval
    high z h =
        let l : interval.last <ℤ (z +ℤ offset) = omega (zarith, h, d_add z offset, d_abs offset, d_abs interval.last, r.last_near.within, r.offset_near.within) in
        by_test interval (z +ℤ offset) false (is_above interval.first interval.last (z +ℤ offset) l)

    go : (a b : Bool) → lt_z m (negsuc 99999999999999) ≡ a → lt_z (pos 100000000000000) m ≡ b → tested interval (cond a (negsuc 99999999999999) (cond b (pos 100000000000000) m) +ℤ offset) ≡ tested interval (m +ℤ offset)
    go true b e f = low (negsuc 99999999999999) (omega zarith) ∙ sym (low m (omega zarith))
    go false true e f = high (pos 100000000000000) (omega zarith) ∙ sym (high m (omega zarith))
    go false false e f = refl

-- ---- what a rate comes to: within a bound, and between what it comes to at the two ends of the minutes
pub drift_within : {rate m : ℤ} {r n : ℕ} (k : ℕ) → Within r rate → Within n m → r * n ≤ k * 52596000 → Within k (drift_of rate m)
unfolding drift_of
drift_within k p q l = w_floor< 52596000 k (omega arith) (w_mul p q) l

rises : (r : ℕ) (m n : ℤ) → m ≤ℤ n → drift_of (pos r) m ≤ℤ drift_of (pos r) n
unfolding drift_of
rises r m n h = floor_mono (pos r *ℤ m) (pos r *ℤ n) 52596000 (omega arith) (pos_mono r m n h)

falls : (r : ℕ) (m n : ℤ) → m ≤ℤ n → drift_of (negsuc r) n ≤ℤ drift_of (negsuc r) m
unfolding drift_of
falls r m n h = floor_mono (negsuc r *ℤ n) (negsuc r *ℤ m) 52596000 (omega arith) (neg_anti r m n h)

between : (x lo hi : ℤ) {d e f : ℤ} → d ≤ℤ e → e ≤ℤ f → FromTo lo hi (x +ℤ d) → FromTo lo hi (x +ℤ f) → FromTo lo hi (x +ℤ e)
between x lo hi {d} {e} {f} p q a b = record { low = omega (zarith, p, a.low, d_add x d, d_add x e); high = omega (zarith, q, b.high, d_add x e, d_add x f) }

pub drift_between : (x rate first last m lo hi : ℤ) → FromTo first last m → FromTo lo hi (x +ℤ drift_of rate first) → FromTo lo hi (x +ℤ drift_of rate last) → FromTo lo hi (x +ℤ drift_of rate m)
drift_between x (pos r) first last m lo hi h a b = between x lo hi (rises r first m h.low) (rises r m last h.high) a b
drift_between x (negsuc r) first last m lo hi h a b = between x lo hi (falls r m last h.high) (falls r first m h.low) b a
