-- Numbers laid out in fields and read back, for any layout: each undoes the other.
-- By recursion on the widths; in each field the law of a single number (Numbers).
use mathlib.Core.List.{List, [], ◌∷◌, ◌++◌, append_assoc}
use mathlib.Core.Path.{◌≡◌, refl, ap, ◌∙◌}
use Prim.Native.Nat.{ℕ, zero, suc, ◌*◌, ◌%◌, ◌^◌, ◌≤◌}
use native.Mathlib.Nat.{lt_of_lt_of_le}
use native.Mathlib.Omega.{arith}
use lib.Dec.{T, leb, ltb, leb→le}
use lib.IntN.{ℤ}
use lib.ListN.{length, take, drop, length-drop}
use lib.Pow.{are_bytes, pow_mono}
use lib.Seq.{take_at, drop_at, take-add, length-take-le}
use mir.Facts.{and_yes, yes_and, of_z-to_z}
use mir.Syntax.{w64}
use mir.Val.{of_z, to_z}
use Rattle.layouts.specs.Bytes.{big_endian, field_bytes, field_number}
use Rattle.layouts.specs.Layout.{total, narrow, bytes_of, numbers_in}
use Rattle.layouts.proofs.Numbers.{big_length, number_big, number_small, big_number_lem}

-- ---- what was laid out is read: each number is one that its field's bytes hold
pub record Holds (k : ℕ) (z : ℤ) : Type 0 where
  pub held : to_z w64 (of_z w64 z % 2 ^ (8 * k)) ≡ z

pub data AllHeld : List ℕ → List ℤ → Type 0 where
  none : AllHeld [] []
  more : {k : ℕ} {z : ℤ} {ks : List ℕ} {zs : List ℤ} → Holds k z → AllHeld ks zs → AllHeld (k ∷ ks) (z ∷ zs)

pub numbers_back : {ks : List ℕ} {zs : List ℤ} → AllHeld ks zs → (rest : List ℕ) → numbers_in ks (bytes_of ks zs ++ rest) ≡ zs
unfolding bytes_of numbers_in
numbers_back none rest = refl
numbers_back (more {k} {z} {ks} {zs} held all) rest =
    let new = field_bytes k z in
    let long = big_length k (of_z w64 z) in
    rw (append_assoc, take_at new (bytes_of ks zs ++ rest) k long, drop_at new (bytes_of ks zs ++ rest) k long, number_big k (of_z w64 z), held.held, numbers_back all rest)

-- ---- what was read is laid out again
pub bytes_parts : (k : ℕ) (bs : List ℕ) → T (are_bytes bs) → T (are_bytes (take k bs)) × T (are_bytes (drop k bs))
bytes_parts zero bs t = (tt, t)
bytes_parts (suc k) [] t = (tt, tt)
bytes_parts (suc k) (b ∷ bs) t =
    let d = and_yes (ltb b 256) (are_bytes bs) t in
    let e = bytes_parts k bs d.1 in
    (yes_and (ltb b 256) (are_bytes (take k bs)) d.0 e.0, e.1)

-- up to eight bytes, as the number in them and laid out again
field_back : (bs : List ℕ) → T (are_bytes bs) → length bs ≤ 8 → field_bytes (length bs) (field_number bs) ≡ bs
field_back bs t h =
    let small = lt_of_lt_of_le (number_small bs 0 0 t (omega arith)) (pow_mono {j = 64} (omega arith)) in
    ap (big_endian (length bs)) (of_z-to_z {w = w64} (record { fits = small })) ∙ big_number_lem bs t

pub bytes_back : (ks bytes : List ℕ) → T (are_bytes bytes) → T (narrow ks) → total ks ≤ length bytes → bytes_of ks (numbers_in ks bytes) ≡ take (total ks) bytes
unfolding bytes_of numbers_in
bytes_back [] bytes t all h = refl
bytes_back (k ∷ ks) bytes t all h =
    let d = and_yes (leb k 8) (narrow ks) all in
    let b = bytes_parts k bytes t in
    let field = take k bytes in
    let long : length field ≡ k = length-take-le k bytes (omega arith) in
    let head = rw long at (field_back field b.0 (rw long (leb→le k 8 d.0))) in
    rw (head, bytes_back ks (drop k bytes) b.1 d.1 (rw length-drop (omega arith)), take-add k (total ks) bytes)
