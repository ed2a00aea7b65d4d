-- What is known of an answer: a place was found of a table, a body, a frame and a minute that there are; a refusal is 1, 11, 2, 3 or 4; and every
-- part of a place becomes a double exactly; a place in HAE is the orbit's. The answer goes by the date's moment and two tests, so each law goes by their outcomes.
use mathlib.Core.Bool.{Bool, true, false}
use mathlib.Core.Logic.{◌⊎◌, inl, inr}
use mathlib.Core.Path.{◌≡◌, refl, subst, sym, ap, ◌∙◌}
use Prim.Native.Nat.{ℕ}
use native.Mathlib.Omega.{arith}
use lib.IntN.{ℤ, pos, +ℤ_idr}
use lib.Dec.{T}
use Rattle.integers.specs.Range.{FromTo, is_from_to}
use Rattle.integers.proofs.Ranges.{of_test, is_inside, inside_of}
use Rattle.integers.proofs.Number.{w_more}
use Rattle.refusals.specs.declared.Refusal.{Refusal}
use Rattle.refusals.specs.declared.Refusal.TheVariants.{NotFinite, OutsideInterval, NoSuchBody, NoSuchFrame, NoSuchTable}
use Rattle.refusals.specs.Number.{number_of}
use Rattle.dates.specs.declared.Date.{Date}
use Rattle.dates.specs.declared.Date.TheVariants.{Minutes}
use Rattle.dates.specs.Moment.{tested}
use Rattle.dates.proofs.Laws.{inside}
use Rattle.tables.specs.Table.{KnownTable, Body, is_body, OnTable, interval_of, moment_after}
use Rattle.tables.proofs.Laws.{after_inside, after_refused, after_tested}
use Rattle.frames.specs.declared.Coordinates.{Coordinates}
use Rattle.frames.specs.Frame.{KnownFrame, is_frame, turned_between}
use Rattle.frames.specs.Answer.{as_coordinates}
use Rattle.vectors.proofs.Turns.{part_no_longer}
use Rattle.projector.specs.Au.{CountsExact}
use Rattle.places.specs.Answer.{place_coordinates, hae_at, earth_at, place_if, place_on, place_after, place_answer}
use Rattle.places.proofs.Earth.{place_long}
use Rattle.std.specs.Prelude.{Err, Ok, Result}

-- what is so of a place that was found
pub record IsFound (table body frame m : ℤ) (p : Coordinates) : Type 0 where
  pub known_body : Body body
  pub known_frame : KnownFrame frame
  pub on_table : OnTable table m
  pub turned : as_coordinates (turned_between (pos 1) frame (earth_at table m) (hae_at table body m)) ≡ p

-- what is so of a refusal: it is 1, 2, 3 or 4, or 11 where there is no such table
pub data IsRefused (table : ℤ) (r : Refusal) : Type 0 where
  first_four : FromTo (pos 1) (pos 4) (number_of r) → IsRefused table r
  eleven : r ≡ NoSuchTable → (KnownTable table → ⊥) → IsRefused table r

-- a refusal of one of these numbers
numbered : {table : ℤ} (q r : Refusal) → T (is_from_to (pos 1) (pos 4) (number_of q)) → r ≡ q → IsRefused table r
numbered {table} q r t e = first_four (of_test (pos 1) (pos 4) (number_of r) (subst (λ (x : Refusal). T (is_from_to (pos 1) (pos 4) (number_of x))) (sym e) t))

dated : {table : ℤ} (r : Refusal) → ((r ≡ NotFinite) ⊎ (r ≡ OutsideInterval)) ⊎ ((r ≡ NoSuchTable) × (KnownTable table → ⊥)) → IsRefused table r
dated r (inl (inl e)) = numbered NotFinite r tt e
dated r (inl (inr e)) = numbered OutsideInterval r tt e
dated r (inr e) = eleven e.0 e.1

-- the minute of an answer, zero where there is none
abbrev place_minute : Result (ℤ × Coordinates) Refusal → ℤ
place_minute (Ok found) = found.0
place_minute (Err r) = pos 0

module _ (date : Date) (table offset body frame : ℤ) where
  pub found_is : (m : ℤ) (p : Coordinates) → place_after date table offset body frame ≡ Ok (m, p) → IsFound table body frame m p
  found_is m p e = go (moment_after date table offset) (after_inside date table offset) e
    where
      by : (b c : Bool) (n : ℤ) → is_body body ≡ b → is_frame frame ≡ c → OnTable table n → place_if b c table body frame n ≡ Ok (m, p) → IsFound table body frame m p
      by false c n s t h f = let z : ◌≡◌ {A = ℕ} 0 1 = cc in absurd (omega arith)
      by true false n s t h f = let z : ◌≡◌ {A = ℕ} 0 1 = cc in absurd (omega arith)
      by true true n s t h f =
          let i = ap place_minute f in
          let g = ap place_coordinates f in
          record {
            known_body = inside_of (pos 1) (pos 9) body s;
            known_frame = inside_of (pos 1) (pos 5) frame t;
            on_table = subst (OnTable table) i h;
            turned = subst (λ (k : ℤ). as_coordinates (turned_between (pos 1) frame (earth_at table k) (hae_at table body k)) ≡ p) i g;
          }

      go : (o : Result ℤ Refusal) → ((n : ℤ) → o ≡ Ok n → OnTable table n) → place_on o table body frame ≡ Ok (m, p) → IsFound table body frame m p
      go (Ok n) k f = by (is_body body) (is_frame frame) n refl refl (k n refl) f
      go (Err r) k f = let z : ◌≡◌ {A = ℕ} 0 1 = cc in absurd (omega arith)

  pub refused_is : (r : Refusal) → place_after date table offset body frame ≡ Err r → IsRefused table r
  refused_is r e = go (moment_after date table offset) (after_refused date table offset) e
    where
      by : (b c : Bool) (n : ℤ) → place_if b c table body frame n ≡ Err r → IsRefused table r
      by false c n f = numbered NoSuchBody r tt cc
      by true false n f = numbered NoSuchFrame r tt cc
      by true true n f = let z : ◌≡◌ {A = ℕ} 0 1 = cc in absurd (omega arith)

      go : (o : Result ℤ Refusal) → ((q : Refusal) → o ≡ Err q → ((q ≡ NotFinite) ⊎ (q ≡ OutsideInterval)) ⊎ ((q ≡ NoSuchTable) × (KnownTable table → ⊥))) → place_on o table body frame ≡ Err r → IsRefused table r
      go (Ok n) k f = by (is_body body) (is_frame frame) n f
      go (Err q) k f = let g : q ≡ r = cc in subst (IsRefused table) g (dated q (k q refl))

  -- a place's parts become doubles exactly
  pub found_exact : (m : ℤ) (p : Coordinates) → place_after date table offset body frame ≡ Ok (m, p) → CountsExact p.x p.y p.z
  found_exact m p e =
      let f = found_is m p e in
      let v = turned_between (pos 1) frame (earth_at table m) (hae_at table body m) in
      let l = place_long table m f.on_table body frame f.known_body f.known_frame in
      subst (λ (q : Coordinates). CountsExact q.x q.y q.z) f.turned
      (record {
        x_exact = w_more (part_no_longer v 0 (omega arith) l) tt;
        y_exact = w_more (part_no_longer v 1 (omega arith) l) tt;
        z_exact = w_more (part_no_longer v 2 (omega arith) l) tt;
      })

-- ---- on every minute of a table's interval the place of a known body in a known frame is found
pub place_found : (table body frame m : ℤ) → OnTable table m → Body body → KnownFrame frame → place_answer (Minutes m) table body frame ≡ Ok (m, as_coordinates (turned_between (pos 1) frame (earth_at table m) (hae_at table body m)))
place_found table body frame m h b f =
    let accepted = after_tested (Minutes m) table (pos 0) m refl h.known ∙ ap (tested (interval_of table)) (+ℤ_idr m) ∙ inside (interval_of table) m h.covered in
    ap (λ (o : Result ℤ Refusal). place_on o table body frame) accepted ∙ (λ i. place_if (is_inside (pos 1) (pos 9) body b i) (is_inside (pos 1) (pos 5) frame f i) table body frame m)

-- in HAE it is that of the orbit itself
pub hae_place : (table body m : ℤ) → OnTable table m → Body body → place_answer (Minutes m) table body (pos 1) ≡ Ok (m, as_coordinates (hae_at table body m))
unfolding turned_between
hae_place table body m h b = place_found table body (pos 1) m h b (of_test (pos 1) (pos 5) (pos 1) tt)

-- a place that was found, for whatever date and offset, is found again by its minute
pub found_again : (date : Date) (table offset body frame m : ℤ) (p : Coordinates) → place_after date table offset body frame ≡ Ok (m, p) → place_answer (Minutes m) table body frame ≡ Ok (m, p)
found_again date table offset body frame m p e =
    let f = found_is date table offset body frame m p e in
    place_found table body frame m f.on_table f.known_body f.known_frame ∙ ap (λ (p : Coordinates). Ok (m, p)) f.turned
