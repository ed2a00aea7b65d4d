-- What a planet, a step and a count that are taken are, and that every date of an accepted span is one of the table's interval.
-- A step is not negative, so that each date lies between the first and the last.
use mathlib.Core.Bool.{Bool, true, false, not, ◌&&◌}
use mathlib.Core.Path.{◌≡◌, refl, sym, ap, subst, subst⁻¹, ◌∙◌}
use Prim.Native.Nat.{ℕ, ◌<◌}
use native.Mathlib.Omega.{arith}
use lib.Dec.{T}
use lib.IntN.{ℤ, pos, negsuc, nat_abs, ◌+ℤ◌, ◌-ℤ◌, ◌*ℤ◌, +ℤ_idr}
use lib.Signed.{◌≤ℤ◌}
use mir.Facts.{and_yes}
use Rattle.integers.specs.Range.{Within, FromTo, is_from_to}
use Rattle.integers.specs.Sign.{same}
use Rattle.integers.proofs.Difference.{zarith, d_add, d_minus, eq_d}
use Rattle.integers.proofs.Ranges.{of_test, is_inside, range_most, range_within}
use Rattle.integers.proofs.Ring.{pos_mono}
use Rattle.integers.proofs.Same.{same_yes, same_no}
use Rattle.integers.proofs.Table.{yes, no}
use Rattle.dates.specs.declared.Date.{Date}
use Rattle.dates.specs.Moment.{is_step}
use Rattle.tables.specs.Table.{Body, is_body, OnTable, interval_of, moment_after}
use Rattle.tables.proofs.Laws.{first_near, last_near, after_inside, after_is}
use Rattle.viewing.specs.Hit.{minute_at}
use Rattle.viewing.specs.Span.{SpanFits}
use Rattle.viewing.specs.Viewing.{is_search, is_planet, span_of, span_moment}
use Rattle.std.specs.Prelude.{Err, Ok, Result}
use Rattle.refusals.specs.declared.Refusal.{Refusal}

-- ---- a planet to look for
pub record Planet (body : ℤ) : Type 0 where
  pub known : Body body
  pub other : body ≡ pos 3 → ⊥

pub planet_of : (body : ℤ) → is_planet body ≡ true → Planet body
unfolding is_planet
planet_of body e =
    let t = and_yes (is_body body) (not (same body (pos 3))) (subst⁻¹ T e tt) in
    record { known = of_test (pos 1) (pos 9) body t.0; other = λ e. subst (λ (b : Bool). T (not b)) (same_yes body (pos 3) e) t.1 }

pub is_planet_lem : (body : ℤ) → Planet body → is_planet body ≡ true
unfolding is_planet
is_planet_lem body p = λ i. is_inside (pos 1) (pos 9) body p.known i && not (same_no body (pos 3) p.other i)

pub no_planet : (body : ℤ) → (Planet body → ⊥) → is_planet body ≡ false
no_planet body n = no (is_planet body) (λ t. n (planet_of body (yes (is_planet body) t)))

-- ---- a step and a count that are taken
pub record Taken (step count : ℤ) : Type 0 where
  pub step_range : FromTo (pos 1) (pos 1000000) step
  pub count_range : FromTo (pos 1) (pos 4000) count

pub taken : (step count : ℤ) → is_search step count ≡ true → Taken step count
unfolding is_search is_step
taken step count e =
    let t = and_yes (is_step step) (is_from_to (pos 1) (pos 4000) count) (subst⁻¹ T e tt) in
    record { step_range = of_test (pos 1) (pos 1000000) step t.0; count_range = of_test (pos 1) (pos 4000) count t.1 }

pub is_search_lem : (step count : ℤ) → Taken step count → is_search step count ≡ true
unfolding is_search is_step
is_search_lem step count t = λ i. is_inside (pos 1) (pos 1000000) step t.step_range i && is_inside (pos 1) (pos 4000) count t.count_range i

pub no_search : (step count : ℤ) → (Taken step count → ⊥) → is_search step count ≡ false
no_search step count n = no (is_search step count) (λ t. n (taken step count (yes (is_search step count) t)))

module _ {step count : ℤ} (t : Taken step count) where
  pub step_within : Within 1000000 step
  step_within = range_within (pos 1) (pos 1000000) step 1000000 t.step_range (omega arith) (omega arith)

  pub count_within : Within 4000 count
  count_within = range_within (pos 1) (pos 4000) count 4000 t.count_range (omega arith) (omega arith)

-- ---- a span that is accepted: its first date is minute m, and its last one is accepted too
pub record Span (start : Date) (table step count m : ℤ) : Type 0 where
  pub first_accepted : moment_after start table (pos 0) ≡ Ok m
  pub last : ℤ
  pub last_accepted : moment_after start table (step *ℤ (count -ℤ pos 1)) ≡ Ok last

pub span_is : (start : Date) (table step count m : ℤ) → span_moment start table step count ≡ Ok m → Span start table step count m
unfolding span_moment
span_is start table step count m e = go (moment_after start table (pos 0)) (moment_after start table (step *ℤ (count -ℤ pos 1))) refl refl e
  where
    go : (a b : Result ℤ Refusal) → moment_after start table (pos 0) ≡ a → moment_after start table (step *ℤ (count -ℤ pos 1)) ≡ b → span_of a b ≡ Ok m → Span start table step count m
    go (Err r) b p q f = let z : ◌≡◌ {A = ℕ} 0 1 = cc in absurd (omega arith)
    go (Ok a) (Err r) p q f = let z : ◌≡◌ {A = ℕ} 0 1 = cc in absurd (omega arith)
    go (Ok a) (Ok l) p q f = record { first_accepted = p ∙ f; last = l; last_accepted = q }

-- the last date's minute
pub last_is : (start : Date) (table step count m : ℤ) (s : Span start table step count m) → m +ℤ step *ℤ (count -ℤ pos 1) ≡ s.last
last_is start table step count m s =
    let f = after_is start table (pos 0) m s.first_accepted in
    let l = after_is start table (step *ℤ (count -ℤ pos 1)) s.last s.last_accepted in
    let e : l.start ≡ f.start = let g = sym l.at ∙ f.at in cc in
    let g : f.start ≡ m = sym (+ℤ_idr f.start) ∙ f.sum in
    ap (λ (x : ℤ). x +ℤ step *ℤ (count -ℤ pos 1)) (sym g ∙ sym e) ∙ l.sum

-- ---- between the first date and the last
rises : (step count : ℤ) → Taken step count → (k : ℕ) → k < nat_abs count → (pos 0 ≤ℤ (step *ℤ pos k)) × ((step *ℤ pos k) ≤ℤ (step *ℤ (count -ℤ pos 1)))
rises (negsuc d) count t k l = absurd t.step_range.low.le
rises (pos d) (negsuc n) t k l = absurd t.count_range.low.le
rises (pos d) (pos n) t k l = (omega zarith, pos_mono d (pos k) (pos n -ℤ pos 1) (omega (zarith, d_minus (pos n) (pos 1))))

pub span_fits : (start : Date) (table step count m : ℤ) → Taken step count → Span start table step count m → SpanFits table m step (nat_abs count)
span_fits start table step count m t s =
    record {
      first_near = range_within (interval_of table).first (interval_of table).last m 2630000000 first.covered (first_near table).within (last_near table).within;
      step_small = step_within t;
      count_small = range_most 1 count t.count_range;
      each = each;
    }
  where
    first : OnTable table m
    first = after_inside start table (pos 0) m s.first_accepted

    final : OnTable table s.last
    final = after_inside start table (step *ℤ (count -ℤ pos 1)) s.last s.last_accepted

    each : (k : ℕ) → k < nat_abs count → OnTable table (minute_at m step k)
    each k l =
        let r = rises step count t k l in
        record {
          known = first.known;
          covered =
              record {
                low = omega (zarith, first.covered.low, r.0, d_add m (step *ℤ pos k));
                high = omega (zarith, final.covered.high, r.1, d_add m (step *ℤ pos k), d_add m (step *ℤ (count -ℤ pos 1)), eq_d (m +ℤ step *ℤ (count -ℤ pos 1)) s.last (last_is start table step count m s));
              };
        }
