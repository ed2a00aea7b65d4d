-- What 02, Item 3 says of the answer to a search: the date is the first hit and its place the number looked at, 12 is given exactly where no date is
-- a hit, a larger count changes no hit, and the places are those of the place calls. From the outcome that every call has (Outcomes).
use mathlib.Core.Logic.{◌⊎◌, inl, inr}
use mathlib.Core.Path.{◌≡◌, refl, sym, ap, subst, ◌∙◌}
use Prim.Native.Nat.{ℕ, suc, ◌≤◌, ◌<◌}
use native.Mathlib.Omega.{arith}
use lib.IntN.{ℤ, pos, negsuc, nat_abs, ◌+ℤ◌, ◌-ℤ◌, ◌*ℤ◌}
use lib.Signed.{◌≤ℤ◌}
use Rattle.std.specs.Prelude.{Result, Ok, Err}
use Rattle.integers.specs.First.{IsFirst}
use Rattle.integers.proofs.Difference.{zarith}
use Rattle.integers.proofs.First.{NoneBelow}
use Rattle.refusals.specs.declared.Refusal.{Refusal}
use Rattle.refusals.specs.declared.Refusal.TheVariants.{NoSuchDate}
use Rattle.dates.specs.declared.Date.{Date}
use Rattle.dates.specs.declared.Date.TheVariants.{Minutes}
use Rattle.tables.specs.Table.{default_table}
use Rattle.frames.specs.declared.Coordinates.{Coordinates}
use Rattle.frames.specs.Answer.{as_coordinates}
use Rattle.places.specs.Answer.{hae_at, earth_at, place_answer}
use Rattle.places.proofs.Answers.{hae_place}
use Rattle.places.proofs.Earth.{earth_body}
use Rattle.viewing.specs.declared.Search.{Search}
use Rattle.viewing.specs.Hit.{aspect_at, minute_at, is_hit}
use Rattle.viewing.specs.Viewing.{ended, viewing_answer}
use Rattle.viewing.proofs.Laws.{Taken, span_is, span_fits}
use Rattle.viewing.proofs.Outcomes.{Searched, Outcome, ten, one, eleven, two, three, twelve, hit, span_in, an_outcome_is_the_answer, every_call_has_an_outcome}

-- ---- what two searches that ended alike have in common; none ended with both a refusal and a date
module _ {n m : ℕ} where
  looked_is : {a b : Result ℤ Refusal} → ended a n ≡ ended b m → n ≡ m
  looked_is e = ap (λ (s : Search). s.looked) e

  found_is : {a b : Result ℤ Refusal} → ended a n ≡ ended b m → a ≡ b
  found_is e = ap (λ (s : Search). s.found) e

  date_is : {a b : ℤ} → ended (Ok a) n ≡ ended (Ok b) m → a ≡ b
  date_is e = let f = found_is e in cc

  refusal_is : {q r : Refusal} → ended (Err q) n ≡ ended (Err r) m → q ≡ r
  refusal_is e = let f = found_is e in cc

  no_date : {r : Refusal} {a : ℤ} → ended (Err r) n ≡ ended (Ok a) m → ⊥
  no_date e = let f = found_is e in let z : ◌≡◌ {A = ℕ} 0 1 = cc in absurd (omega arith)

module _ (start : Date) (table step : ℤ) where
  module _ (count body : ℤ) where
    -- ---- "the first date where ...": the date told is a hit of the span, none before it is, and `looked` is its place counted from 1
    pub record FirstHit (told : ℤ) (looked : ℕ) : Type 0 where
      pub first : ℤ
      pub number : ℕ
      pub accepted : Searched start table step count body first
      pub is_hit_lem : IsFirst (is_hit table body first step) number
      pub in_span : number < nat_abs count
      pub minute : minute_at first step number ≡ told
      pub place : suc number ≡ looked

    pub the_date_is_the_first_hit : (told : ℤ) (looked : ℕ) → viewing_answer start table step count body ≡ ended (Ok told) looked → FirstHit told looked
    the_date_is_the_first_hit told looked e = go (viewing_answer start table step count body) (every_call_has_an_outcome start table step count body) e
      where
        go : (a : Search) → Outcome start table step count body a → a ≡ ended (Ok told) looked → FirstHit told looked
        go a (ten n) e = absurd (no_date e)
        go a (one t m) e = absurd (no_date e)
        go a (eleven first t m n) e = absurd (no_date e)
        go a (two first d n) e = absurd (no_date e)
        go a (three first d c n) e = absurd (no_date e)
        go a (twelve first s n) e = absurd (no_date e)
        go a (hit first k s f l) e = record { first = first; number = k; accepted = s; is_hit_lem = f; in_span = l; minute = date_is e; place = looked_is e }

    -- ---- "12, no such date in the span": exactly where none of its dates is a hit, and then all were looked at
    pub record NoHit (looked : ℕ) : Type 0 where
      pub first : ℤ
      pub accepted : Searched start table step count body first
      pub none : NoneBelow (is_hit table body first step) (nat_abs count)
      pub all : nat_abs count ≡ looked

    pub twelve_where_no_date_is_a_hit : (first : ℤ) → Searched start table step count body first → NoneBelow (is_hit table body first step) (nat_abs count) → viewing_answer start table step count body ≡ ended (Err NoSuchDate) (nat_abs count)
    twelve_where_no_date_is_a_hit first s n = an_outcome_is_the_answer start table step count body (ended (Err NoSuchDate) (nat_abs count)) (twelve first s n)

    -- "but for 12 so is the number looked at": a refusal is 12 and there is no hit, or another with none looked at
    pub twelve_only_there : (r : Refusal) (looked : ℕ) → viewing_answer start table step count body ≡ ended (Err r) looked → ((r ≡ NoSuchDate) × NoHit looked) ⊎ ((r ≡ NoSuchDate → ⊥) × (looked ≡ 0))
    twelve_only_there r looked e = go (viewing_answer start table step count body) (every_call_has_an_outcome start table step count body) e
      where
        go : (a : Search) → Outcome start table step count body a → a ≡ ended (Err r) looked → ((r ≡ NoSuchDate) × NoHit looked) ⊎ ((r ≡ NoSuchDate → ⊥) × (looked ≡ 0))
        go a (ten n) e = let f = refusal_is e in inr ((λ q. let z : ◌≡◌ {A = ℕ} 0 1 = cc in absurd (omega arith)), sym (looked_is e))
        go a (one t m) e = let f = refusal_is e in inr ((λ q. let z : ◌≡◌ {A = ℕ} 0 1 = cc in absurd (omega arith)), sym (looked_is e))
        go a (eleven first t m n) e = let f = refusal_is e in inr ((λ q. let z : ◌≡◌ {A = ℕ} 0 1 = cc in absurd (omega arith)), sym (looked_is e))
        go a (two first d n) e = let f = refusal_is e in inr ((λ q. let z : ◌≡◌ {A = ℕ} 0 1 = cc in absurd (omega arith)), sym (looked_is e))
        go a (three first d c n) e = let f = refusal_is e in inr ((λ q. let z : ◌≡◌ {A = ℕ} 0 1 = cc in absurd (omega arith)), sym (looked_is e))
        go a (twelve first s n) e = inl (sym (refusal_is e), record { first = first; accepted = s; none = n; all = looked_is e })
        go a (hit first k s f l) e = absurd (no_date (sym e))

    -- ---- the x and y of an aspect are those that the place calls give, planet's and Earth's, in HAE on that date
    pub record Seen (m : ℤ) : Type 0 where
      pub planet : Coordinates
      pub earth : Coordinates
      pub planet_is : place_answer (Minutes m) table body (pos 1) ≡ Ok (m, planet)
      pub earth_is : place_answer (Minutes m) table (pos 3) (pos 1) ≡ Ok (m, earth)
      pub dot_is : (aspect_at table body m).dot ≡ planet.x *ℤ earth.x +ℤ planet.y *ℤ earth.y
      pub cross_is : (aspect_at table body m).cross ≡ planet.x *ℤ earth.y -ℤ planet.y *ℤ earth.x

    pub each_date_by_the_place_calls : (first : ℤ) → Searched start table step count body first → (k : ℕ) → k < nat_abs count → Seen (minute_at first step k)
    unfolding aspect_at
    each_date_by_the_place_calls first s k l =
        let m = minute_at first step k in
        let span = span_is start table step count first (span_in start table step count body first s.dated s.in_span) in
        let h = (span_fits start table step count first s.dated.in_range span).each k l in
        record {
          planet = as_coordinates (hae_at table body m);
          earth = as_coordinates (earth_at table m);
          planet_is = hae_place table body m h s.planet.known;
          earth_is = hae_place table (pos 3) m h earth_body;
          dot_is = refl;
          cross_is = refl;
        }

  -- ---- "As long as the longer span is accepted too, a larger count never changes a hit", nor the number looked at
  more_dates : (c d : ℤ) → Taken step c → Taken step d → c ≤ℤ d → nat_abs c ≤ nat_abs d
  more_dates (pos c) (pos d) t u l = omega (zarith, l)
  more_dates (pos c) (negsuc d) t u l = absurd u.count_range.low.le
  more_dates (negsuc c) d t u l = absurd t.count_range.low.le

  pub a_larger_count_changes_no_hit : (count larger body first told : ℤ) (looked : ℕ) → viewing_answer start table step count body ≡ ended (Ok told) looked → count ≤ℤ larger → Searched start table step larger body first → viewing_answer start table step larger body ≡ ended (Ok told) looked
  a_larger_count_changes_no_hit count larger body first told looked e l s =
      let f = the_date_is_the_first_hit count body told looked e in
      let same : first ≡ f.first = let g = sym s.dated.minute ∙ f.accepted.dated.minute in cc in
      let more = more_dates count larger f.accepted.dated.in_range s.dated.in_range l in
      an_outcome_is_the_answer start table step larger body (ended (Ok (minute_at f.first step f.number)) (suc f.number))
      (hit f.first f.number (subst (Searched start table step larger body) same s) f.is_hit_lem (omega (arith, f.in_span)))
      ∙ (λ i. ended (Ok (f.minute i)) (f.place i))

-- ---- a call that names no table
pub search_of_none_named : (start : Date) (step count body : ℤ) → viewing_answer start default_table step count body ≡ viewing_answer start (pos 1) step count body
search_of_none_named start step count body = refl
