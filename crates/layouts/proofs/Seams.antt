-- Fields one after the other, as the writer and the reader go over them: what stands after i fields, and one field more.
-- What is done already and what is still to come are together the whole, so a field more moves the seam between them.
use mathlib.Core.List.{List, [], ◌∷◌, ◌++◌, append-nil, append_assoc}
use mathlib.Core.Path.{◌≡◌, sym, ap, ◌∙◌}
use Prim.Native.Nat.{ℕ, zero, suc, ◌+◌, ◌-◌, ◌≤◌, ◌<◌}
use native.Mathlib.Numerals.{add-one}
use native.Mathlib.Omega.{arith}
use lib.Dec.{T, leb, leb→le}
use lib.IntN.{ℤ, pos}
use lib.ListN.{length, take, drop, get_or, set, length-append, drop_of_length-le, length-set}
use lib.Seq.{take_at, drop_at, drop-drop, drop-cons, take_all, take-suc-set, append_snoc}
use mir.Facts.{and_yes}
use mir.Syntax.{w64}
use mir.Val.{of_z}
use borrow.Rule.Slice.PartMut.{put_mid}
use Rattle.layouts.specs.Bytes.{field_bytes, field_number}
use Rattle.layouts.specs.Layout.{total, bytes_of, numbers_in, narrow}
use Rattle.layouts.proofs.Numbers.{big_length}

-- ---- the first i fields take `at` bytes, and what is still to come takes the rest
pub record Seam (ks : List ℕ) (i at : ℕ) : Type 0 where
  pub whole : at + total (drop i ks) ≡ total ks

total_next : (ks : List ℕ) (i : ℕ) → i < length ks → total (drop i ks) ≡ get_or ks i 0 + total (drop (i + 1) ks)
total_next ks i h = rw (add-one, drop-cons ks i 0)

pub seam_next : {ks : List ℕ} {i at : ℕ} → Seam ks i at → i < length ks → Seam ks (i + 1) (at + get_or ks i 0)
seam_next {ks} {i} s h = record { whole = omega (arith, s.whole, total_next ks i h) }

seam_last : {ks : List ℕ} {i at : ℕ} → Seam ks i at → length ks ≤ i → (drop i ks ≡ []) × (at ≡ total ks)
seam_last {ks} {i} s h = let none = drop_of_length-le ks {i = i} h in (none, omega (arith, s.whole, ap total none))

-- a field's width
pub narrow_at : (ks : List ℕ) (i : ℕ) → T (narrow ks) → get_or ks i 0 ≤ 8
narrow_at [] i t = omega arith
narrow_at (k ∷ ks) zero t = leb→le k 8 (and_yes (leb k 8) (narrow ks) t).0
narrow_at (k ∷ ks) (suc i) t = narrow_at ks i (and_yes (leb k 8) (narrow ks) t).1

-- ---- written: i fields stand in the first `at` bytes, and after them the bytes are as they were
pub record Laid (ks : List ℕ) (zs : List ℤ) (old : List ℕ) (i at : ℕ) (bytes : List ℕ) : Type 0 where
  pub seam : Seam ks i at
  pub front : List ℕ
  pub long : length front ≡ at
  pub is : bytes ≡ front ++ drop at old
  pub left : front ++ bytes_of (drop i ks) (drop i zs) ≡ bytes_of ks zs

module _ {ks : List ℕ} {zs : List ℤ} {old : List ℕ} {i at : ℕ} {bytes : List ℕ} (l : Laid ks zs old i at bytes) where
  pub laid_more : {ys : List ℕ} → i < length ks → length ks ≡ length zs → ys ≡ field_bytes (get_or ks i 0) (get_or zs i (pos 0)) → Laid ks zs old (i + 1) (at + get_or ks i 0) (put_mid at (at + get_or ks i 0 - at) bytes ys)
  unfolding bytes_of
  laid_more h e y =
      let k = get_or ks i 0 in
      let front = l.front in
      let new = field_bytes k (get_or zs i (pos 0)) in
      let w : at + k - at ≡ k = omega arith in
      let many : i < length zs = omega arith in
      record {
        seam = seam_next l.seam h;
        front = front ++ new;
        long = length-append front new ∙ (λ j. l.long j + big_length k (of_z w64 (get_or zs i (pos 0))) j);
        is = simp (l.is, y, w, take_at front (drop at old) at l.long, drop_at front (drop at old) at l.long, drop-drop, append_assoc);
        left = rw (← l.left, append_assoc, add-one, drop-cons ks i 0 h, drop-cons zs i (pos 0) many);
      }

  pub laid_all : length ks ≤ i → bytes ≡ bytes_of ks zs ++ drop (total ks) old
  unfolding bytes_of
  laid_all h =
      let last = seam_last l.seam h in
      rw (← l.left, last.0, append-nil, ← last.1) l.is

-- ---- read: of i fields the numbers stand, and those of the others are the rest
pub record Picked (ks bytes : List ℕ) (i at : ℕ) (zs : List ℤ) : Type 0 where
  pub seam : Seam ks i at
  pub many : length ks ≡ length zs
  pub is : take i zs ++ numbers_in (drop i ks) (drop at bytes) ≡ numbers_in ks bytes

module _ {ks bytes : List ℕ} {i at : ℕ} {zs : List ℤ} (p : Picked ks bytes i at zs) where
  pub picked_more : {z : ℤ} → i < length ks → z ≡ field_number (take (at + get_or ks i 0 - at) (drop at bytes)) → Picked ks bytes (i + 1) (at + get_or ks i 0) (set zs i z)
  unfolding numbers_in
  picked_more {z} h e =
      let k = get_or ks i 0 in
      let w : at + k - at ≡ k = omega arith in
      let many : i < length zs = omega (arith, p.many) in
      record {
        seam = seam_next p.seam h;
        many = p.many ∙ sym (length-set zs i z);
        is = rw (← p.is, add-one i, take-suc-set zs i z many, append_snoc, e, w, ← drop-drop k at bytes, drop-cons ks i 0 h);
      }

  pub picked_all : length ks ≤ i → zs ≡ numbers_in ks bytes
  unfolding numbers_in
  picked_all h =
      let many : length zs ≤ i = omega (arith, p.many) in
      rw (← p.is, (seam_last p.seam h).0, append-nil, take_all i zs)
