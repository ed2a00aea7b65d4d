-- Which row is wrong: no row, a refused one, or one with a coordinate further from ours than allowed; and every other row is right.
-- A row that a reader takes is refused, or good, and then its own place is found; the rest goes by the three tests of the definition.
use borrow.Author.Tests.{lt-ltb, le-ltb}
use mathlib.Core.Bool.{Bool, true, false, not, ◌||◌}
use mathlib.Core.List.{List}
use mathlib.Core.Logic.{◌⊎◌, inl, inr}
use mathlib.Core.Path.{◌≡◌, refl, sym, ap, subst⁻¹, subst₂, ◌∙◌}
use Prim.Native.Nat.{ℕ, ◌≤◌, ◌<◌}
use native.Mathlib.Decide.{dec_lt}
use native.Mathlib.Omega.{arith}
use lib.Dec.{T, ltb}
use lib.IntN.{pos, nat_abs, ◌-ℤ◌}
use Rattle.integers.specs.Sign.{same}
use Rattle.integers.proofs.Ranges.{of_test}
use Rattle.integers.proofs.Same.{same_eq, same_yes}
use Rattle.integers.proofs.Table.{differ, yes as is-yes}
use Rattle.refusals.specs.declared.Refusal.{Refusal}
use Rattle.frames.specs.declared.Coordinates.{Coordinates}
use Rattle.frames.specs.Answer.{as_coordinates}
use Rattle.frames.specs.Frame.{turned_between}
use Rattle.places.specs.Answer.{place_coordinates, hae_at, earth_at}
use Rattle.places.proofs.Answers.{place_found}
use Rattle.rows.specs.declared.Row.{Row}
use Rattle.rows.specs.Fields.{row_table, is_good, is_refused, is_row}
use Rattle.rows.specs.Answer.{read_of}
use Rattle.rows.proofs.RoundTrip.{what_is_read_is_a_row}
use Rattle.rows.proofs.Taken.{IsGood, good_is, good_or_refused, good_by_status, refused_by_status, status_0_is_no_refusal}
use Rattle.marking.specs.Wrong.{is_off, our_answer, is_off_by, is_wrong}
use Rattle.std.specs.Prelude.{Err, Ok, Result}

-- ---- a row that is right: a good one, with every coordinate as near to ours as allowed
pub record Near (allowed : ℕ) (row : Row) (ours : Coordinates) : Type 0 where
  pub x_near : nat_abs (row.x -ℤ ours.x) ≤ allowed
  pub y_near : nat_abs (row.y -ℤ ours.y) ≤ allowed
  pub z_near : nat_abs (row.z -ℤ ours.z) ≤ allowed

pub record RightRow (allowed : ℕ) (bytes : List ℕ) : Type 0 where
  pub row : Row
  pub read : read_of bytes ≡ Ok row
  pub good : T (is_good row)
  pub ours : Coordinates
  pub place : our_answer row ≡ Ok (row.minutes, ours)
  pub near : Near allowed row ours

-- ---- and one that is wrong, in the order of 02
pub data Further (allowed : ℕ) (row : Row) (ours : Coordinates) : Type 0 where
  x_off : allowed < nat_abs (row.x -ℤ ours.x) → Further allowed row ours
  y_off : allowed < nat_abs (row.y -ℤ ours.y) → Further allowed row ours
  z_off : allowed < nat_abs (row.z -ℤ ours.z) → Further allowed row ours

pub data WrongRow (allowed : ℕ) (bytes : List ℕ) : Type 0 where
  no_row : (r : Refusal) → read_of bytes ≡ Err r → WrongRow allowed bytes
  refused_one : (row : Row) → read_of bytes ≡ Ok row → T (is_refused row) → WrongRow allowed bytes
  further_off : (row : Row) (ours : Coordinates) → read_of bytes ≡ Ok row → T (is_good row) → our_answer row ≡ Ok (row.minutes, ours) → Further allowed row ours → WrongRow allowed bytes

-- ---- the place of a good row is never refused
pub record OurPlace (row : Row) : Type 0 where
  pub ours : Coordinates
  pub is : our_answer row ≡ Ok (row.minutes, ours)

pub a_good_row_has_its_place : (row : Row) → IsGood row → OurPlace row
a_good_row_has_its_place row g =
    let m = row.minutes in
    record {
      ours = as_coordinates (turned_between (pos 1) row.frame (earth_at row_table m) (hae_at row_table row.body m));
      is = place_found row_table row.body row.frame m (record { known = of_test (pos 1) (pos 2) row_table tt; covered = g.covered }) g.known_body g.known_frame;
    }

-- ---- the test of the coordinates, by its outcome
abbrev FarOrNear : (allowed off : ℕ) → Type 0
FarOrNear allowed off = ((ltb allowed off ≡ true) × (allowed < off)) ⊎ ((ltb allowed off ≡ false) × (off ≤ allowed))

far_or_near : (allowed off : ℕ) → FarOrNear allowed off
far_or_near allowed off = go (dec_lt allowed off)
  where
    go : Dec (allowed < off) → FarOrNear allowed off
    go (yes l) = inl (lt-ltb allowed off l, l)
    go (no l) = inr (le-ltb allowed off (omega arith), omega arith)

module _ (allowed : ℕ) (row : Row) (ours : Coordinates) where
  abbrev x_by : ℕ
  x_by = nat_abs (row.x -ℤ ours.x)

  abbrev y_by : ℕ
  y_by = nat_abs (row.y -ℤ ours.y)

  abbrev z_by : ℕ
  z_by = nat_abs (row.z -ℤ ours.z)

  abbrev OffOrNear : Type 0
  OffOrNear = ((is_off allowed row ours ≡ true) × Further allowed row ours) ⊎ ((is_off allowed row ours ≡ false) × Near allowed row ours)

  off_or_near : OffOrNear
  off_or_near = go (far_or_near allowed x_by) (far_or_near allowed y_by) (far_or_near allowed z_by)
    where
      go : FarOrNear allowed x_by → FarOrNear allowed y_by → FarOrNear allowed z_by → OffOrNear
      go (inl p) q r = inl ((λ i. p.0 i || ltb allowed y_by || ltb allowed z_by), x_off p.1)
      go (inr p) (inl q) r = inl ((λ i. p.0 i || q.0 i || ltb allowed z_by), y_off q.1)
      go (inr p) (inr q) (inl r) = inl ((λ i. p.0 i || q.0 i || r.0 i), z_off r.1)
      go (inr p) (inr q) (inr r) = inr ((λ i. p.0 i || q.0 i || r.0 i), record { x_near = p.1; y_near = q.1; z_near = r.1 })

  not_off_and_near : Further allowed row ours → Near allowed row ours → ⊥
  not_off_and_near (x_off l) n = absurd (omega (arith, n.x_near))
  not_off_and_near (y_off l) n = absurd (omega (arith, n.y_near))
  not_off_and_near (z_off l) n = absurd (omega (arith, n.z_near))

-- ---- a row that a reader took, by its status
module _ (allowed : ℕ) (row : Row) where
  refused_is_wrong : T (is_refused row) → is_wrong allowed (Ok row) ≡ true
  unfolding is_wrong
  refused_is_wrong t = ap (λ (b : Bool). b || is_off_by allowed row (our_answer row)) (is-yes (is_refused row) t)

  good_goes_by_its_place : IsGood row → is_wrong allowed (Ok row) ≡ is_off_by allowed row (our_answer row)
  unfolding is_wrong
  good_goes_by_its_place g = ap (λ (b : Bool). b || is_off_by allowed row (our_answer row)) (status_0_is_no_refusal row g.no_refusal)

  -- a status that is not 0 tells a refused row from a good one
  pub wrong_by_status : T (is_row row) → is_wrong allowed (Ok row) ≡ (not (same row.status (pos 0)) || is_off_by allowed row (our_answer row))
  wrong_by_status t = go (same row.status (pos 0)) refl
    where
      go : (b : Bool) → same row.status (pos 0) ≡ b → is_wrong allowed (Ok row) ≡ (not (same row.status (pos 0)) || is_off_by allowed row (our_answer row))
      go true e = good_goes_by_its_place (good_is row (good_by_status row t (same_eq row.status (pos 0) (subst⁻¹ T e tt)))) ∙ (λ i. not (sym e i) || is_off_by allowed row (our_answer row))
      go false e = refused_is_wrong (refused_by_status row t (λ z. differ (sym e ∙ same_yes row.status (pos 0) z))) ∙ (λ i. not (sym e i) || is_off_by allowed row (our_answer row))

-- ---- so every row is wrong or right, never both, and the test tells which
module _ (allowed : ℕ) (bytes : List ℕ) where
  abbrev pub WrongOrRight : Type 0
  WrongOrRight = ((is_wrong allowed (read_of bytes) ≡ true) × WrongRow allowed bytes) ⊎ ((is_wrong allowed (read_of bytes) ≡ false) × RightRow allowed bytes)

  pub wrong_or_right : WrongOrRight
  unfolding is_wrong
  wrong_or_right = go (read_of bytes) refl
    where
      by : (row : Row) (p : OurPlace row) → read_of bytes ≡ Ok row → T (is_good row) → OffOrNear allowed row p.ours → WrongOrRight
      by row p e g o =
          let test = ap (is_wrong allowed) e ∙ good_goes_by_its_place allowed row (good_is row g) ∙ ap (is_off_by allowed row) p.is in
          elim o [
            | inl f ↦ inl (test ∙ f.0, further_off row p.ours e g p.is f.1)
            | inr n ↦ inr (test ∙ n.0, record { row = row; read = e; good = g; ours = p.ours; place = p.is; near = n.1 })
          ]

      taken : (row : Row) → read_of bytes ≡ Ok row → T (is_good row) ⊎ T (is_refused row) → WrongOrRight
      taken row e (inl g) = let p = a_good_row_has_its_place row (good_is row g) in by row p e g (off_or_near allowed row p.ours)
      taken row e (inr r) = inl (ap (is_wrong allowed) e ∙ refused_is_wrong allowed row r, refused_one row e r)

      go : (a : Result Row Refusal) → read_of bytes ≡ a → WrongOrRight
      go (Err r) e = inl (ap (is_wrong allowed) e, no_row r e)
      go (Ok row) e = taken row e (good_or_refused row (what_is_read_is_a_row bytes row e))

  pub not_wrong_and_right : WrongRow allowed bytes → RightRow allowed bytes → ⊥
  not_wrong_and_right (no_row r e) right = let f = sym e ∙ right.read in let z : ◌≡◌ {A = ℕ} 0 1 = cc in absurd (omega arith)
  not_wrong_and_right (refused_one row e t) right =
      let f = sym right.read ∙ e in
      let same : right.row ≡ row = cc in
      let none = status_0_is_no_refusal right.row (good_is right.row right.good).no_refusal in
      differ (sym none ∙ ap is_refused same ∙ is-yes (is_refused row) t)
  not_wrong_and_right (further_off row ours e g p off) right =
      let f = sym e ∙ right.read in
      let same : row ≡ right.row = cc in
      let h = sym p ∙ ap our_answer same ∙ right.place in
      let ours_same : ours ≡ right.ours = ap place_coordinates h in
      not_off_and_near allowed right.row right.ours (subst₂ (Further allowed) same ours_same off) right.near

  pub wrong_is : is_wrong allowed (read_of bytes) ≡ true → WrongRow allowed bytes
  wrong_is e = elim wrong_or_right [ inl w ↦ w.1 | inr r ↦ absurd (differ (sym r.0 ∙ e)) ]

  pub right_is : is_wrong allowed (read_of bytes) ≡ false → RightRow allowed bytes
  right_is e = elim wrong_or_right [ inl w ↦ absurd (differ (sym e ∙ w.0)) | inr r ↦ r.1 ]

  pub is_wrong_lem : WrongRow allowed bytes → is_wrong allowed (read_of bytes) ≡ true
  is_wrong_lem w = elim wrong_or_right [ inl v ↦ v.0 | inr r ↦ absurd (not_wrong_and_right w r.1) ]

  pub is_right : RightRow allowed bytes → is_wrong allowed (read_of bytes) ≡ false
  is_right r = elim wrong_or_right [ inl w ↦ absurd (not_wrong_and_right w.1 r) | inr q ↦ q.0 ]
