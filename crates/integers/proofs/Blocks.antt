-- Blocks of one size, one behind the other in a buffer: how long they are, that block k stands in its own bytes, one block more.
-- They are a list that grows at its end, so each law goes from n blocks to n + 1.
use mathlib.Core.List.{List, ◌++◌, append-nil, append_assoc}
use mathlib.Core.Logic.{◌⊎◌, inl, inr}
use mathlib.Core.Path.{◌≡◌, sym, ap, ◌∙◌}
use Prim.Native.Nat.{ℕ, zero, suc, ◌+◌, ◌-◌, ◌*◌, ◌≤◌, ◌<◌}
use native.Mathlib.Numerals.{add-one}
use native.Mathlib.Omega.{arith}
use lib.ListN.{length, take, drop, length-append, length-drop, drop_of_length-le}
use lib.Seq.{take_all, take_at, drop_at, drop-drop}
use borrow.Rule.Slice.PartMut.{put_mid, mid_of}
use Rattle.integers.specs.Buffer.{blocks}
use Rattle.integers.proofs.Table.{le_split}

-- a block at the start of what is lent, from byte `at` on to the end
placed : (size at : ℕ) (xs block ys : List ℕ) → at ≤ length xs → ys ≡ block ++ drop size (mid_of at (length xs - at) xs)
    → put_mid at (length xs - at) xs ys ≡ take at xs ++ (block ++ drop (at + size) xs)
placed size at xs block ys h e =
    let k = length xs - at in
    ap (λ (l : List ℕ). take at xs ++ (l ++ drop k (drop at xs))) (e ∙ ap (λ (l : List ℕ). block ++ drop size l) (take_all k (drop at xs) (rw length-drop (omega arith))))
    ∙ ap (λ (l : List ℕ). take at xs ++ ((block ++ drop size (drop at xs)) ++ l)) (drop_of_length-le (drop at xs) {i = k} (rw length-drop (omega arith)))
    ∙ ap (λ (l : List ℕ). take at xs ++ l) (append-nil (block ++ drop size (drop at xs)) ∙ ap (λ (l : List ℕ). block ++ l) (drop-drop size at xs))

module _ (size : ℕ) (block : ℕ → List ℕ) (sized : (k : ℕ) → length (block k) ≡ size) where
  pub blocks_long : (n : ℕ) → length (blocks block n) ≡ size * n
  unfolding blocks
  blocks_long zero = omega arith
  blocks_long (suc n) = length-append (blocks block n) (block n) ∙ omega (arith, blocks_long n, sized n)

  -- block k stands in its own bytes, whatever follows
  pub block_in_place : (n k : ℕ) (rest : List ℕ) → k < n → take size (drop (size * k) (blocks block n ++ rest)) ≡ block k
  unfolding blocks
  block_in_place zero k rest h = absurd (omega arith)
  block_in_place (suc n) k rest h =
      ap (λ (b : List ℕ). take size (drop (size * k) b)) (append_assoc (blocks block n) (block n) rest) ∙ go (λ l. block_in_place n k (block n ++ rest) l) (le_split k n h)
    where
      go : (k < n → take size (drop (size * k) (blocks block n ++ (block n ++ rest))) ≡ block k) → (k ≡ n) ⊎ (k < n) → take size (drop (size * k) (blocks block n ++ (block n ++ rest))) ≡ block k
      go f (inr l) = f l
      go f (inl e) =
          ap (λ (j : ℕ). take size (drop (size * j) (blocks block n ++ (block n ++ rest)))) e
          ∙ ap (take size) (drop_at (blocks block n) (block n ++ rest) (size * n) (blocks_long n))
          ∙ take_at (block n) rest size (sized n)
          ∙ ap block (sym e)

  -- ---- a buffer that begins with the first i blocks, and behind them is as it was
  abbrev pub filled : ℕ → List ℕ → List ℕ
  filled i xs = blocks block i ++ drop (size * i) xs

  more : (i : ℕ) (xs buf new : List ℕ) → buf ≡ filled i xs → new ≡ take (size * i) buf ++ (block i ++ drop (size * i + size) buf) → new ≡ filled (i + 1) xs
  unfolding blocks
  more i xs buf new b n =
      n
      ∙ ap (λ (l : List ℕ). take (size * i) l ++ (block i ++ drop (size * i + size) l)) b
      ∙ ap (λ (l : List ℕ). l ++ (block i ++ drop (size * i + size) (filled i xs))) (take_at (blocks block i) (drop (size * i) xs) (size * i) (blocks_long i))
      ∙ ap (λ (l : List ℕ). blocks block i ++ (block i ++ l)) (sym (drop-drop size (size * i) (filled i xs)) ∙ ap (drop size) (drop_at (blocks block i) (drop (size * i) xs) (size * i) (blocks_long i)) ∙ drop-drop size (size * i) xs)
      ∙ sym (append_assoc (blocks block i) (block i) (drop (size * i + size) xs))
      ∙ rw (add-one, next)
    where
      next : size * suc i ≡ size * i + size
      next = omega arith

  pub filled_long : (n : ℕ) (xs : List ℕ) → size * n ≤ length xs → length (filled n xs) ≡ length xs
  filled_long n xs h = length-append (blocks block n) (drop (size * n) xs) ∙ omega (arith, blocks_long n, length-drop (size * n) xs)

  -- a round that puts block i into the part of the buffer from its own bytes on
  pub round : (i : ℕ) (xs buf ys : List ℕ) → size * (i + 1) ≤ length xs → length buf ≡ length xs → buf ≡ filled i xs
      → ys ≡ block i ++ drop size (mid_of (size * i) (length buf - size * i) buf)
      → (put_mid (size * i) (length buf - size * i) buf ys ≡ filled (i + 1) xs) × (length (put_mid (size * i) (length buf - size * i) buf ys) ≡ length xs)
  round i xs buf ys h l b y =
      let new = more i xs buf (put_mid (size * i) (length buf - size * i) buf ys) b (placed size (size * i) buf (block i) ys (omega arith) y) in
      (new, ap length new ∙ filled_long (i + 1) xs h)
