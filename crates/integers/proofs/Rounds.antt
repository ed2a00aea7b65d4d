-- The rounds of `root` are the steps of the definition `root_from`, and there are at most 32.
-- For the root so far r and a bit b, (r + b)² - r² is 2 r b + b²: where that is not above what is left, the definition sets the bit.
use mathlib.Core.Path.{◌≡◌, refl, sym, ap, ◌∙◌}
use Prim.Native.Nat.{ℕ, zero, suc, ◌+◌, ◌-◌, ◌*◌, ◌/◌, ◌^◌, ◌≤◌, ◌<◌}
use native.Mathlib.Omega.{arith}
use native.Mathlib.Nat.{pow-suc}
use lib.Pow.{pow_pos}
use Rattle.integers.specs.Root.{root_from, root_of}
use Rattle.integers.proofs.Squares.{square_mono}
use Rattle.integers.proofs.Roots.{root_set, root_unset, root_end, double}

-- ---- the root so far
-- With k rounds to go, r is the root so far, whose lowest k bits are still 0. The code holds no r: it holds what the square of r leaves
-- of x, and r 2^k.
pub record SoFar (k x rest held : ℕ) : Type 0 where
  pub r : ℕ
  pub left : rest + r * r ≡ x
  pub holds : held ≡ r * 2 ^ k
  pub small : r + 2 ^ k ≤ 2 ^ 32
  pub root : root_from k r x ≡ root_of x

-- one round, of the bit 2^k
module _ (k x rest held bit : ℕ) (a : SoFar (suc k) x rest held) (b : bit ≡ 2 ^ k * 2 ^ k) where
  twice : held ≡ a.r * (2 ^ k + 2 ^ k)
  twice = rw (double k) at a.holds

  below : a.r + 2 ^ k + 2 ^ k ≤ 2 ^ 32
  below = omega (arith, double k)

  fits_at : held + bit < 2 ^ 64
  fits_at =
      let q = square_mono (a.r + 2 ^ k) 4294967295 (omega (arith, below, pow_pos k)) in
      omega (arith, twice)

  set_at : held + bit ≤ rest → SoFar k x (rest - (held + bit)) (held + bit - held / 2)
  set_at h =
      let e = twice in
      let s = root_set k a.r x (omega arith) in
      record { r = a.r + 2 ^ k; left = omega arith; holds = omega arith; small = below; root = sym s ∙ a.root }

  unset_at : rest < held + bit → SoFar k x rest (held / 2)
  unset_at h =
      let e = twice in
      let s = root_unset k a.r x (omega arith) in
      record { r = a.r; left = a.left; holds = omega arith; small = omega (arith, below); root = sym s ∙ a.root }

-- ---- the same by the square of the bit
-- the square of the bit that is tried next, with k rounds to go: 4^(k-1), and 0 after the last
unfoldable pub bit_at : ℕ → ℕ
bit_at zero = 0
bit_at (suc k) = 2 ^ k * 2 ^ k

quarter : (k : ℕ) → 2 ^ k * 2 ^ k / 4 ≡ bit_at k
unfolding bit_at
quarter zero = refl
quarter (suc k) = rw (double k) (omega arith)

-- what holds between two rounds
pub record Round (x rest held bit : ℕ) : Type 0 where
  pub k : ℕ
  pub so_far : SoFar k x rest held
  pub next : bit ≡ bit_at k

-- before the first
pub start : (x : ℕ) → Round x x 0 4611686018427387904
unfolding bit_at root_of
start x =
    record { k = 32; so_far = record { r = 0; left = omega arith; holds = omega arith; small = omega arith; root = refl }; next = refl }

module _ {x rest held bit : ℕ} where
  -- while the bit is not 0, a round is to come
  to_come : {A : Type 0} → Round x rest held bit → 0 < bit → ((k : ℕ) → SoFar (suc k) x rest held → bit ≡ 2 ^ k * 2 ^ k → A) → A
  unfolding bit_at
  to_come {A = A} t h f = go t.k t.so_far t.next
    where
      go : (k : ℕ) → SoFar k x rest held → bit ≡ bit_at k → A
      go zero a e = absurd (omega arith)
      go (suc k) a e = f k a e

  -- what the bit adds to the square is a number of 64 bits
  pub fits : Round x rest held bit → 0 < bit → held + bit < 2 ^ 64
  fits t h = to_come t h (λ k a b. fits_at k x rest held bit a b)

  -- a bit that belongs to the root, and one that does not
  pub set : Round x rest held bit → 0 < bit → held + bit ≤ rest → Round x (rest - (held + bit)) (held + bit - held / 2) (bit / 4)
  set t h l = to_come t h (λ k a b. record { k = k; so_far = set_at k x rest held bit a b l; next = rw b (quarter k) })

  pub unset : Round x rest held bit → 0 < bit → rest < held + bit → Round x rest (held / 2) (bit / 4)
  unset t h l = to_come t h (λ k a b. record { k = k; so_far = unset_at k x rest held bit a b l; next = rw b (quarter k) })

-- after the last
pub done : {x rest held : ℕ} → Round x rest held 0 → held ≡ root_of x
unfolding bit_at
done {x} {rest} {held} t = go t.k t.so_far t.next
  where
    go : (k : ℕ) → SoFar k x rest held → 0 ≡ bit_at k → held ≡ root_of x
    go zero a e = let h : held ≡ a.r = omega arith in h ∙ sym (root_end a.r x) ∙ a.root
    go (suc k) a e = let q = square_mono 1 (2 ^ k) (pow_pos k) in absurd (omega arith)

-- ---- how many rounds
-- how often a number can be quartered before it is 0, counted up to n
unfoldable pub quarterings : ℕ → ℕ → ℕ
quarterings zero bit = 0
quarterings (suc n) zero = 0
quarterings (suc n) (suc b) = suc (quarterings n (suc b / 4))

most : (n bit : ℕ) → quarterings n bit ≤ n
unfolding quarterings
most zero bit = omega arith
most (suc n) zero = omega arith
most (suc n) (suc b) = let h = most n (suc b / 4) in omega arith

-- of a number below 4^n all are counted
all : (n bit : ℕ) → bit < 4 ^ n → quarterings n bit ≡ quarterings (suc n) bit
unfolding quarterings
all zero bit h = let e : bit ≡ 0 = omega arith in rw e refl
all (suc n) bit h = go bit (all n (bit / 4) (let l = rw (pow-suc 4 n) at h in omega arith))
  where
    go : (b : ℕ) → quarterings n (b / 4) ≡ quarterings (suc n) (b / 4) → quarterings (suc n) b ≡ quarterings (suc (suc n)) b
    go zero e = refl
    go (suc b) e = ap suc e

-- the rounds to go by the square of the bit: at most 32, and one less after each round. Both loops of `root` count them down
unfoldable pub to_go : ℕ → ℕ
to_go bit = quarterings 32 bit

pub at_most_32 : (bit : ℕ) → to_go bit ≤ 32
unfolding to_go
at_most_32 bit = most 32 bit

pub one_less : (bit : ℕ) → 0 < bit → bit < 2 ^ 64 → to_go bit ≡ suc (to_go (bit / 4))
unfolding to_go quarterings
one_less zero h l = absurd (omega arith)
one_less (suc b) h l = ap suc (all 31 (suc b / 4) (omega arith))
