-- Bytes put into others, one lot behind another.
-- What stands before them, they and what stands behind them are three lists; a second lot moves the seam between the last two.
use mathlib.Core.List.{List, [], ◌∷◌, ◌++◌, append_assoc}
use mathlib.Core.Path.{◌≡◌, refl, sym, ap, ◌∙◌}
use Prim.Native.Nat.{ℕ, ◌+◌, ◌≤◌, ◌<◌}
use native.Mathlib.Nat.{add_assoc, add-zero}
use native.Mathlib.Numerals.{add-one}
use native.Mathlib.Omega.{arith}
use lib.ListN.{length, take, drop, set, length-append, take-append-drop}
use lib.Seq.{set_split, take_at, drop_at, drop-drop, length-take-le}
use Rattle.integers.specs.Buffer.{replaced}
use Rattle.listing_lines.specs.Put.{Put}

-- one byte
pub put_one : (l : List ℕ) (at b : ℕ) → at < length l → Put at (b ∷ []) l (set l at b) (at + 1)
unfolding replaced
put_one l at b h = record { next = refl; bytes = set_split l at b h ∙ ap (λ (n : ℕ). take at l ++ b ∷ drop n l) (sym (add-one at)) }

-- nothing
pub put_none : (l : List ℕ) (at : ℕ) → at ≤ length l → Put at [] l l at
unfolding replaced
put_none l at h = record { next = omega arith; bytes = sym (take-append-drop at l) ∙ ap (λ (n : ℕ). take at l ++ drop n l) (sym (add-zero at)) }

-- a second lot behind the first
second : (at : ℕ) (xs ys l : List ℕ) → at ≤ length l → replaced (at + length xs) ys (replaced at xs l) ≡ replaced at (xs ++ ys) l
unfolding replaced
second at xs ys l h =
    let front = take at l in
    let back = drop (at + length xs) l in
    let long : length (front ++ xs) ≡ at + length xs = length-append front xs ∙ ap (λ (n : ℕ). n + length xs) (length-take-le at l h) in
    let same : front ++ (xs ++ back) ≡ (front ++ xs) ++ back = sym (append_assoc front xs back) in
    ap (λ (m : List ℕ). take (at + length xs) m ++ (ys ++ drop (at + length xs + length ys) m)) same
    ∙ (λ i. take_at (front ++ xs) back (at + length xs) long i ++ (ys ++ sym (drop-drop (length ys) (at + length xs) ((front ++ xs) ++ back)) i))
    ∙ ap (λ (m : List ℕ). (front ++ xs) ++ (ys ++ drop (length ys) m)) (drop_at (front ++ xs) back (at + length xs) long)
    ∙ ap (λ (m : List ℕ). (front ++ xs) ++ (ys ++ m)) (drop-drop (length ys) (at + length xs) l)
    ∙ append_assoc front xs (ys ++ drop (at + length xs + length ys) l)
    ∙ ap (λ (m : List ℕ). front ++ m) (sym (append_assoc xs ys (drop (at + length xs + length ys) l)))
    ∙ ap (λ (n : ℕ). front ++ ((xs ++ ys) ++ drop n l)) (add_assoc at (length xs) (length ys) ∙ ap (λ (n : ℕ). at + n) (sym (length-append xs ys)))

pub put_then : {at r s : ℕ} {xs ys l m k : List ℕ} → at ≤ length l → Put at xs l m r → Put r ys m k s → Put at (xs ++ ys) l k s
put_then {at} {r} {s} {xs} {ys} {l} h p q = record {
  next = q.next ∙ ap (λ (n : ℕ). n + length ys) p.next ∙ add_assoc at (length xs) (length ys) ∙ ap (λ (n : ℕ). at + n) (sym (length-append xs ys));
  bytes = q.bytes ∙ (λ i. replaced (p.next i) ys (p.bytes i)) ∙ second at xs ys l h;
}
