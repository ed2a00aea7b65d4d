-- What a table changes and what it does not (02, Item 1): a call that names none is one that names table 1; by table 1 the date, M and the place
-- are document 01's own; and two tables differ in nothing but interval, elements and M, since steps 3 to 5 and the turns are one definition.
-- The first two by computation, the last by congruence.
use mathlib.Core.List.{List}
use mathlib.Core.Path.{◌≡◌, refl, ap}
use lib.IntN.{ℤ, pos}
use Rattle.dates.specs.declared.Date.{Date}
use Rattle.dates.specs.Minute.{minute_of}
use Rattle.dates.specs.Moment.{moment_at}
use Rattle.tables.specs.Table.{table1, default_table, row_in, table_row, table_terms, interval1, interval_of, moment_after}
use Rattle.orbits.specs.Elements.{elements_at, mean_at}
use Rattle.orbits.specs.Place.{place_of}
use Rattle.orbits.specs.Answer.{elements_answer, mean_answer}
use Rattle.orbits.proofs.Terms.{plain_mean, table_1_mean}
use Rattle.frames.specs.Frame.{turned_between}
use Rattle.places.specs.Answer.{hae_at, earth_at, place_answer, turn_answer, au_answer}

-- ---- "a call that names none gets table 1": for places in counts and in au, elements, mean anomalies and turns
module _ (date : Date) (body frame : ℤ) where
  pub place_of_none_named : place_answer date default_table body frame ≡ place_answer date (pos 1) body frame
  place_of_none_named = refl

  pub au_of_none_named : au_answer date default_table body frame ≡ au_answer date (pos 1) body frame
  au_of_none_named = refl

  pub elements_of_none_named : elements_answer date default_table body ≡ elements_answer date (pos 1) body
  elements_of_none_named = refl

  pub mean_of_none_named : mean_answer date default_table body ≡ mean_answer date (pos 1) body
  mean_of_none_named = refl

pub turn_of_none_named : (date : Date) (f g : ℤ) (v : List ℤ) → turn_answer date default_table f g v ≡ turn_answer date (pos 1) f g v
turn_of_none_named date f g v = refl

-- ---- by table 1 everything is as document 01 has it: "with table 1's interval", Table 1's rows, and M without further terms
pub moment_by_table_1 : (date : Date) (offset : ℤ) → moment_after date (pos 1) offset ≡ moment_at interval1 (minute_of date) offset
unfolding moment_after interval_of
moment_by_table_1 date offset = refl

pub place_by_table_1 : (body m : ℤ) → hae_at (pos 1) body m ≡ place_of (elements_at (row_in table1 body) m) (plain_mean (elements_at (row_in table1 body) m))
unfolding table_row
place_by_table_1 body m = ap (place_of (elements_at (row_in table1 body) m)) (table_1_mean body m)

-- ---- two tables t and u that give a body the same elements and the same M give it the same place, and the same Earth turns alike
module _ (t u m : ℤ) where
  pub same_elements_same_place : (body : ℤ) → elements_at (table_row t body) m ≡ elements_at (table_row u body) m → mean_at (table_row t body) (table_terms t body) m ≡ mean_at (table_row u body) (table_terms u body) m → hae_at t body m ≡ hae_at u body m
  same_elements_same_place body e f = λ i. place_of (e i) (f i)

  pub same_earth_same_turn : (f g : ℤ) (v : List ℤ) → earth_at t m ≡ earth_at u m → turned_between f g (earth_at t m) v ≡ turned_between f g (earth_at u m) v
  same_earth_same_turn f g v e = ap (λ (earth : List ℤ). turned_between f g earth v) e
