-- Numbers in bytes, the high one first, and back: at any width each undoes the other.
-- By recursion on the width or on the bytes; a byte more is a factor 256, by which omega divides.
use mathlib.Core.List.{List, [], ◌∷◌, ◌++◌, append-nil}
use mathlib.Core.Path.{◌≡◌, refl, sym, ap, ◌∙◌}
use Prim.Native.Nat.{ℕ, zero, suc, ◌+◌, ◌*◌, ◌-◌, ◌/◌, ◌%◌, ◌^◌, ◌≤◌, ◌<◌}
use native.Mathlib.Nat.{mod-one, zero-add, add-zero, add-suc, suc-add}
use native.Mathlib.Numerals.{add-one}
use native.Mathlib.Omega.{arith}
use lib.Dec.{T, ltb, ltb→lt}
use lib.ListN.{length, drop, set, length-append, length-set}
use lib.Pow.{are_bytes, mod-pow-add, pow-add, pow_mono}
use lib.Seq.{append_snoc, drop-cons, drop-set-lt, get_or-set_same}
use mir.Facts.{and_yes}
use Rattle.layouts.specs.Bytes.{big_endian, big_from, big_number}

-- a width of one byte more
bits_more : (k : ℕ) → 8 * suc k ≡ 8 * k + 8
bits_more k = omega arith

wider : (k : ℕ) → 2 ^ (8 * suc k) ≡ 2 ^ (8 * k) * 256
wider k = ap (λ (n : ℕ). 2 ^ n) (bits_more k) ∙ pow-add 2 (8 * k) 8

-- ---- written from the low end: the bytes that are still to come, before those that stand from byte i on
pub next_byte : (bytes : List ℕ) (rest i : ℕ) → 0 < i → i ≤ length bytes → big_endian (i - 1) (rest / 256) ++ drop (i - 1) (set bytes (i - 1) (rest % 256)) ≡ big_endian i rest ++ drop i bytes
unfolding big_endian
next_byte bytes rest zero p h = absurd (omega arith)
next_byte bytes rest (suc j) p h =
    let b = rest % 256 in
    let d : suc j - 1 ≡ j = omega arith in
    let long : j < length (set bytes j b) = rw length-set h in
    rw (d, drop-cons (set bytes j b) j 0, get_or-set_same bytes j b 0, drop-set-lt (suc j) bytes j b (omega arith), append_snoc)

-- ---- read from the high end: with a byte to come, a number of i bytes is one of i + 1, and 64 bits hold it
pub next_small : (n b i : ℕ) → n < 2 ^ (8 * i) → b < 256 → n * 256 + b < 2 ^ (8 * (i + 1))
next_small n b i h l = rw (add-one, wider) (omega arith)

pub next_fits : (n b i : ℕ) → n < 2 ^ (8 * i) → i < 8 → b < 256 → n * 256 + b < 2 ^ 64
next_fits n b i h k l = let p = pow_mono {i = 8 * i} {j = 56} (omega arith) in omega arith

-- ---- lengths and bounds
pub big_length : (k n : ℕ) → length (big_endian k n) ≡ k
unfolding big_endian
big_length zero n = refl
big_length (suc k) n = length-append (big_endian k (n / 256)) (n % 256 ∷ []) ∙ omega (arith, big_length k (n / 256))

pub number_small : (bs : List ℕ) (n i : ℕ) → T (are_bytes bs) → n < 2 ^ (8 * i) → big_from n bs < 2 ^ (8 * (i + length bs))
unfolding big_from
number_small [] n i t h = rw add-zero h
number_small (b ∷ bs) n i t h =
    let d = and_yes (ltb b 256) (are_bytes bs) t in
    rw (add-suc i (length bs), ← suc-add i (length bs), ← add-one i) (number_small bs (n * 256 + b) (i + 1) d.1 (next_small n b i h (ltb→lt b 256 d.0)))

-- ---- each undoes the other
number_more : (bs : List ℕ) (n b : ℕ) → big_from n (bs ++ b ∷ []) ≡ big_from n bs * 256 + b
unfolding big_from
number_more [] n b = refl
number_more (a ∷ bs) n b = number_more bs (n * 256 + a) b

pub number_big : (k n : ℕ) → big_number (big_endian k n) ≡ n % 2 ^ (8 * k)
unfolding big_from big_endian
number_big zero n = sym (mod-one n)
number_big (suc k) n = rw (number_more, number_big k (n / 256), bits_more, mod-pow-add n (8 * k) 8)

-- after the k bytes of a number n
big_number_after : (bs : List ℕ) (k n : ℕ) → T (are_bytes bs) → big_endian (k + length bs) (big_from n bs) ≡ big_endian k n ++ bs
unfolding big_from big_endian
big_number_after [] k n t = rw (add-zero, append-nil)
big_number_after (b ∷ bs) k n t =
    let d = and_yes (ltb b 256) (are_bytes bs) t in
    let l = ltb→lt b 256 d.0 in
    let high : (n * 256 + b) / 256 ≡ n = omega arith in
    let low : (n * 256 + b) % 256 ≡ b = omega arith in
    ap (λ (m : ℕ). big_endian m (big_from (n * 256 + b) bs)) (add-suc k (length bs) ∙ sym (suc-add k (length bs)))
    ∙ rw (big_number_after bs (suc k) (n * 256 + b) d.1, high, low, append_snoc)

pub big_number_lem : (bs : List ℕ) → T (are_bytes bs) → big_endian (length bs) (big_number bs) ≡ bs
unfolding big_endian
big_number_lem bs t = rw zero-add at (big_number_after bs 0 0 t)
