-- The two faces of the square root are one: `root_of` computes the greatest number whose square is not above x.
-- The bits fixed so far give r with r² ≤ x < (r + 2^k)²; each further bit halves the gap, and at k = 0 it is 1.
use mathlib.Core.Path.{◌≡◌, refl, ap}
use mathlib.Core.Bool.{cond}
use Prim.Native.Nat.{ℕ, zero, suc, ◌+◌, ◌*◌, ◌^◌, ◌≤◌, ◌<◌}
use native.Mathlib.Omega.{arith}
use native.Mathlib.Nat.{pow-suc}
use native.Mathlib.Decide.{dec_lt}
use borrow.Author.Tests.{le-leb, lt-leb}
use Rattle.integers.specs.Root.{IsRoot, root_from, root_of}
use Rattle.integers.proofs.Squares.{square_mono, from_squares}

-- r² ≤ x < (r + 1)² is the greatest
pub root_by : (x r : ℕ) → r * r ≤ x → x < (r + 1) * (r + 1) → IsRoot x r
root_by x r h l = record { square = h; greatest = λ k q. go k q (dec_lt r k) }
  where
    go : (k : ℕ) → k * k ≤ x → Dec (r < k) → k ≤ r
    go k q (yes d) = let m = square_mono (r + 1) k (omega arith) in absurd (omega arith)
    go k q (no d) = omega arith

-- only one number is the root
pub root_only : (x r s : ℕ) → IsRoot x r → IsRoot x s → r ≡ s
root_only x r s a b =
    let h = b.greatest r a.square in
    let k = a.greatest s b.square in
    omega arith

pub double : (k : ℕ) → 2 ^ suc k ≡ 2 ^ k + 2 ^ k
double k = rw (pow-suc 2 k) (omega arith)

-- a step of the definition: the bit 2^k is set, or not
pub root_set : (k r x : ℕ) → (r + 2 ^ k) * (r + 2 ^ k) ≤ x → root_from (suc k) r x ≡ root_from k (r + 2 ^ k) x
unfolding root_from
root_set k r x h = ap (λ b. root_from k (cond b (r + 2 ^ k) r) x) (le-leb ((r + 2 ^ k) * (r + 2 ^ k)) x h)

pub root_unset : (k r x : ℕ) → x < (r + 2 ^ k) * (r + 2 ^ k) → root_from (suc k) r x ≡ root_from k r x
unfolding root_from
root_unset k r x h = ap (λ b. root_from k (cond b (r + 2 ^ k) r) x) (lt-leb ((r + 2 ^ k) * (r + 2 ^ k)) x h)

pub root_end : (r x : ℕ) → root_from 0 r x ≡ r
unfolding root_from
root_end r x = refl

from_is : (k r x : ℕ) → r * r ≤ x → x < (r + 2 ^ k) * (r + 2 ^ k) → IsRoot x (root_from k r x)
from_is zero r x h l = rw (root_end r x) (root_by x r h l)
from_is (suc k) r x h l = go (dec_lt x ((r + 2 ^ k) * (r + 2 ^ k))) (from_is k (r + 2 ^ k) x) (from_is k r x h)
  where
    wide : x < (r + 2 ^ k + 2 ^ k) * (r + 2 ^ k + 2 ^ k)
    wide = let m = rw (double k) at l in omega arith

    go : Dec (x < (r + 2 ^ k) * (r + 2 ^ k)) → ((r + 2 ^ k) * (r + 2 ^ k) ≤ x → x < (r + 2 ^ k + 2 ^ k) * (r + 2 ^ k + 2 ^ k) → IsRoot x (root_from k (r + 2 ^ k) x)) → (x < (r + 2 ^ k) * (r + 2 ^ k) → IsRoot x (root_from k r x)) → IsRoot x (root_from (suc k) r x)
    go (yes d) set unset = rw (root_unset k r x d) (unset d)
    go (no d) set unset = rw (root_set k r x (omega arith)) (set (omega arith) wide)

pub root_is : (x : ℕ) → x < 2 ^ 64 → IsRoot x (root_of x)
unfolding root_of
root_is x h = from_is 32 0 x (omega arith) (omega arith)

-- a root of a number of 64 bits is below 2^32
pub root_small : (x r : ℕ) → r * r ≤ x → x < 2 ^ 64 → r ≤ 4294967295
root_small x r h l = go (dec_lt 4294967295 r)
  where
    go : Dec (4294967295 < r) → r ≤ 4294967295
    go (yes d) = let q = square_mono 4294967296 r d in absurd (omega arith)
    go (no d) = omega arith

-- the root of a number that is not above the square of m is at most m
pub root_most : (x r m : ℕ) → r * r ≤ x → x ≤ m * m → r ≤ m
root_most x r m h l = from_squares r m (omega arith)
