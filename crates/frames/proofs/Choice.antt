-- The tests by which the definitions choose: which frames have rows, which go by the Earth's place, and vectors within ±500,000,000.
-- By the cases of ℤ, and part by part.
use mathlib.Core.Path.{◌≡◌, refl, subst, sym, ap, ◌∙◌}
use mathlib.Core.Bool.{Bool, true, false, not, ◌&&◌, cond}
use mathlib.Core.List.{List}
use Prim.Native.Nat.{ℕ, zero, suc, zero-le}
use native.Mathlib.Omega.{arith}
use lib.Dec.{T}
use lib.IntN.{ℤ, pos, negsuc}
use lib.ListN.{length, get_or-eq_default}
use Rattle.integers.specs.Range.{Within}
use Rattle.integers.specs.Sign.{same}
use Rattle.integers.proofs.Difference.{zarith}
use Rattle.integers.specs.Triple.{at, PartsWithin}
use Rattle.integers.proofs.Ranges.{inside_of, outside_of, range_within}
use Rattle.frames.specs.Frame.{KnownFrame, HasRows, needs_earth, rotation_of, hae_turned, turned_between}
use Rattle.frames.specs.Answer.{part_in_limits, in_limits}

-- a known frame that is not HAE has rows
pub past_hae : (f : ℤ) → KnownFrame f → (f ≡ pos 1 → ⊥) → HasRows f
past_hae (pos zero) k n = absurd k.low.le
past_hae (pos (suc zero)) k n = absurd (n refl)
past_hae (pos (suc (suc f))) k n = record { low = omega zarith; high = k.high }
past_hae (negsuc f) k n = absurd k.low.le

-- ---- a frame that does not go by the Earth's place: it makes no difference
free : (back : Bool) (f : ℤ) → KnownFrame f → needs_earth f ≡ false → (e d v : List ℤ) → hae_turned back f e v ≡ hae_turned back f d v
unfolding hae_turned rotation_of
free back (negsuc n) h l e d v = absurd h.low.le
free back (pos zero) h l e d v = absurd h.low.le
free back (pos (suc zero)) h l e d v = refl
free back (pos (suc (suc zero))) h l e d v = refl
free back (pos (suc (suc (suc zero)))) h l e d v = refl
free back (pos (suc (suc (suc (suc n))))) h l e d v = absurd (outside_of (pos 4) (pos 5) (pos (suc (suc (suc (suc n))))) l (record { low = omega zarith; high = h.high }))

pub earth_free : (f g : ℤ) → KnownFrame f → KnownFrame g → needs_earth f ≡ false → needs_earth g ≡ false → (e d v : List ℤ) → turned_between f g e v ≡ turned_between f g d v
unfolding turned_between
earth_free f g hf hg nf ng e d v =
    ap (λ (z : List ℤ). cond (same f g) v z) (free false g hg ng e d (hae_turned true f e v) ∙ ap (hae_turned false g d) (free true f hf nf e d v))

-- ---- within ±500,000,000
both_true : (a b : Bool) → a && b ≡ true → (a ≡ true) × (b ≡ true)
both_true true b e = (refl, e)
both_true false b e = absurd (subst (λ (c : Bool). T (not c)) e tt)

-- a vector of three that passes the test
pub limits_parts : (v : List ℤ) → length v ≡ 3 → in_limits v ≡ true → PartsWithin 500000000 v
limits_parts v n e = record { part = go }
  where
    part : (i : ℕ) → part_in_limits (at v i) ≡ true → Within 500000000 (at v i)
    part i t = range_within (negsuc 499999999) (pos 500000000) (at v i) 500000000 (inside_of (negsuc 499999999) (pos 500000000) (at v i) t) (omega arith) (omega arith)

    first : (part_in_limits (at v 0) ≡ true) × (part_in_limits (at v 1) && part_in_limits (at v 2) ≡ true)
    first = both_true (part_in_limits (at v 0)) (part_in_limits (at v 1) && part_in_limits (at v 2)) e

    second : (part_in_limits (at v 1) ≡ true) × (part_in_limits (at v 2) ≡ true)
    second = both_true (part_in_limits (at v 1)) (part_in_limits (at v 2)) first.1

    go : (i : ℕ) → Within 500000000 (at v i)
    go zero = part 0 first.0
    go (suc zero) = part 1 second.0
    go (suc (suc zero)) = part 2 second.1
    go (suc (suc (suc i))) =
        subst (Within 500000000) (sym (get_or-eq_default v (pos 0) {n = suc (suc (suc i))} (omega (arith, n)))) (record { within = zero-le })
