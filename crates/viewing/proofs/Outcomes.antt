-- What may become of a search, row by row as 02, Item 3 lists it: each row says when it is so and what the call is told. Every call is in one of
-- the rows, and what that row tells is its answer: answered or refused exactly as listed. By the outcomes of the definition's tests, in their order.
use mathlib.Core.Bool.{Bool, true, false}
use mathlib.Core.Logic.{◌⊎◌, inl, inr}
use mathlib.Core.Path.{◌≡◌, refl, sym, ap, subst, ◌∙◌}
use Prim.Native.Nat.{ℕ, suc, ◌<◌}
use lib.IntN.{ℤ, pos, nat_abs, ◌+ℤ◌, ◌-ℤ◌, ◌*ℤ◌, +ℤ_idr}
use Rattle.std.specs.Prelude.{Ok, Err, None, Option, Result, Some}
use Rattle.integers.specs.First.{IsFirst, first_picked}
use Rattle.integers.proofs.First.{NoneBelow, FirstBelow, either, is_none, is_first}
use Rattle.integers.proofs.Ranges.{inside_of, outside_of}
use Rattle.integers.proofs.Table.{differ}
use Rattle.refusals.specs.declared.Refusal.TheVariants.{NotFinite, OutsideInterval, NoSuchBody, BadCount, NoSuchTable, NoSuchDate}
use Rattle.dates.specs.declared.Date.{Date}
use Rattle.dates.specs.Minute.{minute_of}
use Rattle.dates.specs.Moment.{Covers, covers, tested}
use Rattle.dates.proofs.Laws.{inside, outside}
use Rattle.tables.specs.Table.{KnownTable, is_table, interval_of, moment_after}
use Rattle.tables.proofs.Laws.{after_not_finite, after_eleven, after_tested}
use Rattle.viewing.specs.declared.Search.{Search}
use Rattle.viewing.specs.Hit.{minute_at, is_hit}
use Rattle.viewing.specs.Viewing.{is_search, is_planet, span_of, span_moment, ended, found_at, viewing_if, viewing_by, viewing_answer}
use Rattle.viewing.proofs.Laws.{Taken, taken, is_search_lem, no_search, Planet, planet_of, is_planet_lem, no_planet}
use Rattle.refusals.specs.declared.Refusal.{Refusal}

module _ (start : Date) (table step : ℤ) where
  -- ---- a call that is not refused by 10, 1 or 11: its start is minute `first`
  pub record Dated (count first : ℤ) : Type 0 where
    pub in_range : Taken step count
    pub minute : minute_of start ≡ Some first
    pub known : KnownTable table

  -- nor by 2: its first date lies in the interval, and so does its last
  abbrev pub InSpan : (count first : ℤ) → Type 0
  InSpan count first = Covers (interval_of table) first × Covers (interval_of table) (first +ℤ step *ℤ (count -ℤ pos 1))

  -- nor by 3
  pub record Searched (count body first : ℤ) : Type 0 where
    pub dated : Dated count first
    pub in_span : InSpan count first
    pub planet : Planet body

  -- ---- what may become of a call, in the order of 02, and what it is told
  pub data Outcome (count body : ℤ) : Search → Type 0 where
    ten : (Taken step count → ⊥) → Outcome count body (ended (Err BadCount) 0)
    one : Taken step count → minute_of start ≡ None → Outcome count body (ended (Err NotFinite) 0)
    eleven : (first : ℤ) → Taken step count → minute_of start ≡ Some first → (KnownTable table → ⊥) → Outcome count body (ended (Err NoSuchTable) 0)
    two : (first : ℤ) → Dated count first → (InSpan count first → ⊥) → Outcome count body (ended (Err OutsideInterval) 0)
    three : (first : ℤ) → Dated count first → InSpan count first → (Planet body → ⊥) → Outcome count body (ended (Err NoSuchBody) 0)
    twelve : (first : ℤ) → Searched count body first → NoneBelow (is_hit table body first step) (nat_abs count) → Outcome count body (ended (Err NoSuchDate) (nat_abs count))
    hit : (first : ℤ) (k : ℕ) → Searched count body first → IsFirst (is_hit table body first step) k → k < nat_abs count → Outcome count body (ended (Ok (minute_at first step k)) (suc k))

  module _ (count body : ℤ) where
    abbrev answer : Search
    answer = viewing_answer start table step count body

    -- ---- the answer by what its tests told
    by : {b : Bool} {span : Result ℤ Refusal} → is_search step count ≡ b → span_moment start table step count ≡ span → answer ≡ viewing_by b span table body step (nat_abs count)
    unfolding viewing_answer
    by e f = λ i. viewing_by (e i) (f i) table body step (nat_abs count)

    by_moments : {first last : Result ℤ Refusal} → moment_after start table (pos 0) ≡ first → moment_after start table (step *ℤ (count -ℤ pos 1)) ≡ last → span_moment start table step count ≡ span_of first last
    unfolding span_moment
    by_moments e f = λ i. span_of (e i) (f i)

    -- the moment of a date of minute m, `offset` after the start
    module _ (first : ℤ) (d : Dated count first) (offset m : ℤ) (is : first +ℤ offset ≡ m) where
      moment_by : moment_after start table offset ≡ tested (interval_of table) m
      moment_by = after_tested start table offset first d.minute d.known ∙ ap (tested (interval_of table)) is

      moment_in : Covers (interval_of table) m → moment_after start table offset ≡ Ok m
      moment_in c = moment_by ∙ inside (interval_of table) m c

      moment_out : (Covers (interval_of table) m → ⊥) → moment_after start table offset ≡ Err OutsideInterval
      moment_out n = moment_by ∙ outside (interval_of table) m n

    abbrev to_last : ℤ
    to_last = step *ℤ (count -ℤ pos 1)

    pub span_in : (first : ℤ) → Dated count first → InSpan count first → span_moment start table step count ≡ Ok first
    span_in first d c = by_moments (moment_in first d (pos 0) first (+ℤ_idr first) c.0) (moment_in first d to_last (first +ℤ to_last) refl c.1)

    span_out : (first : ℤ) → Dated count first → (InSpan count first → ⊥) → span_moment start table step count ≡ Err OutsideInterval
    span_out first d n = go (covers (interval_of table) first) refl
      where
        go : (b : Bool) → covers (interval_of table) first ≡ b → span_moment start table step count ≡ Err OutsideInterval
        go true c =
            let f = inside_of (interval_of table).first (interval_of table).last first c in
            by_moments (moment_in first d (pos 0) first (+ℤ_idr first) f) (moment_out first d to_last (first +ℤ to_last) refl (λ l. n (f, l)))
        go false c = by_moments (moment_out first d (pos 0) first (+ℤ_idr first) (outside_of (interval_of table).first (interval_of table).last first c)) refl

    on_span : (first : ℤ) → Dated count first → InSpan count first → {b : Bool} → is_planet body ≡ b → answer ≡ viewing_if b table body first step (nat_abs count)
    on_span first d c p = by (is_search_lem step count d.in_range) (span_in first d c) ∙ ap (λ (b : Bool). viewing_if b table body first step (nat_abs count)) p

    on_search : (first : ℤ) → Searched count body first → answer ≡ found_at first step (nat_abs count) (first_picked (is_hit table body first step) (nat_abs count))
    on_search first s = on_span first s.dated s.in_span (is_planet_lem body s.planet)

    -- ---- an outcome is the answer
    pub an_outcome_is_the_answer : (a : Search) → Outcome count body a → answer ≡ a
    an_outcome_is_the_answer a (ten n) = by (no_search step count n) refl
    an_outcome_is_the_answer a (one t e) = by (is_search_lem step count t) (by_moments (after_not_finite start table (pos 0) e) refl)
    an_outcome_is_the_answer a (eleven first t e n) = by (is_search_lem step count t) (by_moments (after_eleven start table (pos 0) first e n) refl)
    an_outcome_is_the_answer a (two first d n) = by (is_search_lem step count d.in_range) (span_out first d n)
    an_outcome_is_the_answer a (three first d c n) = on_span first d c (no_planet body n)
    an_outcome_is_the_answer a (twelve first s n) = on_search first s ∙ ap (found_at first step (nat_abs count)) (is_none (is_hit table body first step) (nat_abs count) n)
    an_outcome_is_the_answer a (hit first k s f l) = on_search first s ∙ ap (found_at first step (nat_abs count)) (is_first (is_hit table body first step) (nat_abs count) k f l)

    -- ---- and every call has one
    settled : {a : Search} → Outcome count body a → Outcome count body answer
    settled {a} o = subst (Outcome count body) (sym (an_outcome_is_the_answer a o)) o

    pub every_call_has_an_outcome : Outcome count body answer
    every_call_has_an_outcome = by_search (is_search step count) refl
      where
        by_hits : (first : ℤ) → Searched count body first → NoneBelow (is_hit table body first step) (nat_abs count) ⊎ FirstBelow (is_hit table body first step) (nat_abs count) → Outcome count body answer
        by_hits first s (inl n) = settled (twelve first s n)
        by_hits first s (inr f) = settled (hit first f.at s f.first f.below)

        by_planet : (b : Bool) (first : ℤ) → is_planet body ≡ b → Dated count first → InSpan count first → Outcome count body answer
        by_planet true first p d c = by_hits first (record { dated = d; in_span = c; planet = planet_of body p }) (either (is_hit table body first step) (nat_abs count))
        by_planet false first p d c = settled (three first d c (λ q. differ (sym p ∙ is_planet_lem body q)))

        by_span : (b c : Bool) (first : ℤ) → covers (interval_of table) first ≡ b → covers (interval_of table) (first +ℤ to_last) ≡ c → Dated count first → Outcome count body answer
        by_span true true first f l d = by_planet (is_planet body) first refl d (inside_of (interval_of table).first (interval_of table).last first f, inside_of (interval_of table).first (interval_of table).last (first +ℤ to_last) l)
        by_span true false first f l d = settled (two first d (λ c. outside_of (interval_of table).first (interval_of table).last (first +ℤ to_last) l c.1))
        by_span false c first f l d = settled (two first d (λ c. outside_of (interval_of table).first (interval_of table).last first f c.0))

        by_table : (b : Bool) (first : ℤ) → is_table table ≡ b → Taken step count → minute_of start ≡ Some first → Outcome count body answer
        by_table true first h t e = by_span (covers (interval_of table) first) (covers (interval_of table) (first +ℤ to_last)) first refl refl (record { in_range = t; minute = e; known = inside_of (pos 1) (pos 2) table h })
        by_table false first h t e = settled (eleven first t e (outside_of (pos 1) (pos 2) table h))

        by_minute : (m : Option ℤ) → minute_of start ≡ m → Taken step count → Outcome count body answer
        by_minute None e t = settled (one t e)
        by_minute (Some first) e t = by_table (is_table table) first refl t e

        by_search : (b : Bool) → is_search step count ≡ b → Outcome count body answer
        by_search true e = by_minute (minute_of start) refl (taken step count e)
        by_search false e = settled (ten (λ t. differ (sym e ∙ is_search_lem step count t)))
