-- The fields of a row that a reader takes hold their numbers: those of a good row by its ranges, those of a refused one as zeros; and its status
-- says which of the two it is. By the tests of the definition, taken apart.
use mathlib.Core.Bool.{false, ◌&&◌}
use mathlib.Core.List.{List, [], ◌∷◌}
use mathlib.Core.Logic.{◌⊎◌, inl, inr, ⊎_elim}
use mathlib.Core.Path.{◌≡◌, refl, sym, ap, subst⁻¹, ◌∙◌}
use Prim.Native.Nat.{ℕ, ◌*◌, ◌%◌, ◌^◌, ◌<◌}
use native.Mathlib.Nat.{zero-mod, mod-eq_of_lt}
use native.Mathlib.Omega.{arith}
use lib.Dec.{T}
use lib.IntN.{ℤ, pos, nat_abs}
use lib.ListN.{length, drop, replicate}
use mir.Facts.{and_yes, or_yes, Fits-of_z}
use mir.Syntax.{w64}
use mir.Val.{SFits, of_z, to_z}
use Rattle.integers.specs.Range.{FromTo, is_from_to}
use Rattle.integers.specs.Sign.{same}
use Rattle.integers.proofs.Cast.{back, of_nat}
use Rattle.integers.proofs.Number.{w_fits}
use Rattle.integers.proofs.Ranges.{of_test, range_within, range_size, range_most}
use Rattle.integers.proofs.Same.{same_eq}
use Rattle.integers.proofs.Table.{differ, yes}
use Rattle.dates.specs.Moment.{Covers, covers}
use Rattle.tables.specs.Table.{Body, is_body, interval_of}
use Rattle.tables.proofs.Laws.{first_near, last_near}
use Rattle.rows.specs.declared.Row.{Row}
use Rattle.layouts.specs.Layout.{are_zeros}
use Rattle.rows.specs.Fields.{widths1, row_numbers, row_table, is_frame1, is_good, is_refused, is_row}
use Rattle.layouts.proofs.Layouts.{Holds, AllHeld, none, more}

-- ---- a number in eight bytes, and one from 0 to 255 in one
holds_64 : (z : ℤ) → SFits w64 z → Holds 8 z
holds_64 z f = record { held = ap (to_z w64) (mod-eq_of_lt (Fits-of_z f).fits) ∙ back z f }

module _ {a b : ℕ} (z : ℤ) (l : b < 256) (h : FromTo (pos a) (pos b) z) where
  pub byte_is : of_z w64 z % 256 ≡ nat_abs z
  byte_is = ap (λ (y : ℤ). of_z w64 y % 256) (sym (range_size a z h)) ∙ mod-eq_of_lt (omega (arith, range_most a z h))

  holds_byte : Holds 1 z
  holds_byte = record { held = ap (to_z w64) byte_is ∙ of_nat (nat_abs z) (omega (arith, range_most a z h)) ∙ range_size a z h }

-- ---- zeros in fields of any width
zeros_are : (zs : List ℤ) → T (are_zeros zs) → zs ≡ replicate (length zs) (pos 0)
zeros_are [] t = refl
zeros_are (z ∷ zs) t =
    let d = and_yes (same z (pos 0)) (are_zeros zs) t in
    λ i. same_eq z (pos 0) d.0 i ∷ zeros_are zs d.1 i

zeros_held : (ks : List ℕ) → AllHeld ks (replicate (length ks) (pos 0))
zeros_held [] = none
zeros_held (k ∷ ks) = more (record { held = ap (to_z w64) (zero-mod (2 ^ (8 * k))) }) (zeros_held ks)

-- ---- a row that a reader takes. x, y, z are numbers of 64 bits
pub record Counts (r : Row) : Type 0 where
  pub x : SFits w64 r.x
  pub y : SFits w64 r.y
  pub z : SFits w64 r.z

head_held : (r : Row) → Holds 1 r.status → AllHeld (drop 3 widths1) (drop 3 (row_numbers r)) → AllHeld widths1 (row_numbers r)
head_held r s rest = more (record { held = refl }) (more (record { held = refl }) (more s rest))

-- what is so of the fields of a good row
pub record IsGood (r : Row) : Type 0 where
  pub no_refusal : r.status ≡ pos 0
  pub known_body : Body r.body
  pub known_frame : FromTo (pos 1) (pos 5) r.frame
  pub covered : Covers (interval_of row_table) r.minutes

pub good_is : (r : Row) → T (is_good r) → IsGood r
unfolding is_good
good_is r t =
    let status = same r.status (pos 0) in
    let body = is_body r.body in
    let frame = is_frame1 r.frame in
    let d = and_yes (status && body && frame) (covers (interval_of row_table) r.minutes) t in
    let c = and_yes (status && body) frame d.0 in
    let b = and_yes status body c.0 in
    record { no_refusal = same_eq r.status (pos 0) b.0; known_body = of_test _ _ _ b.1; known_frame = of_test _ _ _ c.1; covered = of_test _ _ _ d.1 }

good_held : (r : Row) → Counts r → T (is_good r) → AllHeld widths1 (row_numbers r)
good_held r counts t =
    let g = good_is r t in
    let minutes = range_within (interval_of row_table).first (interval_of row_table).last r.minutes 2630000000 g.covered (first_near row_table).within (last_near row_table).within in
    head_held r (subst⁻¹ (Holds 1) g.no_refusal (record { held = refl }))
    (more (holds_byte r.body (omega arith) g.known_body)
    (more (holds_byte r.frame (omega arith) g.known_frame)
    (more (holds_64 r.minutes (w_fits minutes tt))
    (more (holds_64 r.x counts.x)
    (more (holds_64 r.y counts.y)
    (more (holds_64 r.z counts.z)
    none))))))

refused_held : (r : Row) → T (is_refused r) → AllHeld widths1 (row_numbers r)
unfolding is_refused
refused_held r t =
    let rest = drop 3 (row_numbers r) in
    let d = and_yes (is_from_to (pos 1) (pos 4) r.status) (are_zeros rest) t in
    head_held r (holds_byte r.status (omega arith) (of_test (pos 1) (pos 4) r.status d.0))
    (subst⁻¹ (AllHeld (drop 3 widths1)) (zeros_are rest d.1) (zeros_held (drop 3 widths1)))

-- ---- of the rows that a reader takes, the good ones are those of status 0, and the refused ones are all others
pub status_0_is_no_refusal : (r : Row) → r.status ≡ pos 0 → is_refused r ≡ false
unfolding is_refused
status_0_is_no_refusal r e = λ i. is_from_to (pos 1) (pos 4) (e i) && are_zeros (drop 3 (row_numbers r))

pub good_or_refused : (r : Row) → T (is_row r) → T (is_good r) ⊎ T (is_refused r)
unfolding is_row
good_or_refused r t = or_yes (is_good r) (is_refused r) t

pub good_by_status : (r : Row) → T (is_row r) → r.status ≡ pos 0 → T (is_good r)
good_by_status r t e = elim (good_or_refused r t) [ inl g ↦ g | inr b ↦ absurd (differ (sym (status_0_is_no_refusal r e) ∙ yes (is_refused r) b)) ]

pub refused_by_status : (r : Row) → T (is_row r) → (r.status ≡ pos 0 → ⊥) → T (is_refused r)
refused_by_status r t n = elim (good_or_refused r t) [ inl g ↦ absurd (n (good_is r g).no_refusal) | inr b ↦ b ]

pub row_held : (r : Row) → Counts r → T (is_row r) → AllHeld widths1 (row_numbers r)
row_held r counts t = ⊎_elim (λ g. good_held r counts g) (λ b. refused_held r b) (good_or_refused r t)
