-- How long a vector is after a turn: no longer than the root of the stretch times its length, and a little more for the divisions; and
-- that the sums of the turn fit 64 bits, by Cauchy. The numbers are tests, answered by `tt`.
use mathlib.Core.Bool.{Bool}
use mathlib.Core.List.{List}
use Prim.Native.Nat.{ℕ, zero, suc, ◌+◌, ◌*◌, ◌^◌, ◌≤◌}
use native.Mathlib.Nat.{mul-le-mul_left, mul-le-mul_right, le_trans}
use native.Mathlib.Omega.{arith}
use lib.Dec.{T, leb, ltb, leb→le, ltb→lt}
use lib.IntN.{ℤ, nat_abs}
use Rattle.integers.specs.Range.{Within}
use Rattle.integers.specs.Triple.{at, PartsWithin}
use Rattle.integers.proofs.Squares.{square_mono, from_squares}
use Rattle.integers.proofs.Ends.{end_rest, end_turn_ends, ends_size}
use Rattle.vectors.specs.Vector.{dot_of, row_at, applied, way_of, squares_of}
use Rattle.vectors.specs.Range.{DotFits, TurnFits, NoLonger}
use Rattle.vectors.proofs.Lengths.{squares_small}
use Rattle.vectors.proofs.Dots.{sums, sizes_of, cauchy, rounded, EndsAll}
use Rattle.vectors.proofs.Norms.{Stretches, way, row_small}

pub applied_ends : (m : List (List ℤ)) (v : List ℤ) → EndsAll 1000000000 end_rest (applied m v) (sums m v)
unfolding applied
applied_ends m v =
    record { first = end_turn_ends (dot_of (row_at m 0) v); second = end_turn_ends (dot_of (row_at m 1) v); third = end_turn_ends (dot_of (row_at m 2) v) }

pub no_longer_than : (n k : ℕ) (v : List ℤ) → PartsWithin n v → T (leb (3 * (n * n)) (k * k)) → NoLonger k v
no_longer_than n k v p t = record { squares = le_trans (squares_small v p) (leb→le (3 * (n * n)) (k * k) t) }

-- a vector's three parts are no larger than it is long
pub part_no_longer : {n : ℕ} (v : List ℤ) (i : ℕ) → i ≤ 2 → NoLonger n v → Within n (at v i)
part_no_longer {n} v i h l = record { within = from_squares (nat_abs (at v i)) n (go i h) }
  where
    go : (i : ℕ) → i ≤ 2 → nat_abs (at v i) * nat_abs (at v i) ≤ n * n
    go zero h = omega (arith, l.squares)
    go (suc zero) h = omega (arith, l.squares)
    go (suc (suc zero)) h = omega (arith, l.squares)
    go (suc (suc (suc i))) h = absurd (omega arith)

pub longer : {m n : ℕ} {v : List ℤ} → NoLonger m v → T (leb m n) → NoLonger n v
longer {m} {n} l t = record { squares = le_trans l.squares (square_mono m n (leb→le m n t)) }

module _ (c : ℕ) (m : List (List ℤ)) (s : Stretches c m) (n k : ℕ) (v : List ℤ) (l : NoLonger n v) (t : T (leb (c * (n * n)) (k * k))) where
  reach : c * squares_of v ≤ k * k
  reach = le_trans (mul-le-mul_left c l.squares) (leb→le (c * (n * n)) (k * k) t)

  -- ---- that the sums fit
  dot_fits : T (ltb k (2 ^ 63)) → (a : List ℤ) → squares_of a ≤ c → DotFits a v
  dot_fits f a h =
      record { sum = omega (arith, from_squares (sizes_of a v) k (le_trans (cauchy a v) (le_trans (mul-le-mul_right (squares_of v) h) reach)), ltb→lt k (2 ^ 63) f) }

  pub turn_fits : T (ltb k (2 ^ 63)) → (back : Bool) → TurnFits (way_of back m) v
  turn_fits f back =
      record {
        first = dot_fits f (row_at (way_of back m) 0) (row_small c m s back 0 (omega arith));
        second = dot_fits f (row_at (way_of back m) 1) (row_small c m s back 1 (omega arith));
        third = dot_fits f (row_at (way_of back m) 2) (row_small c m s back 2 (omega arith));
      }

  -- ---- how long the turned vector is
  pub turned_long : (back : Bool) (j : ℕ) → T (leb (k + 2 * end_rest) (j * 1000000000)) → NoLonger j (applied (way_of back m) v)
  turned_long back j f =
      let z = sums (way_of back m) v in
      let p = applied (way_of back m) v in
      let e = applied_ends (way_of back m) v in
      record {
        squares =
            rounded (nat_abs (at z 0)) (nat_abs (at z 1)) (nat_abs (at z 2)) (nat_abs (at p 0)) (nat_abs (at p 1)) (nat_abs (at p 2)) k end_rest j 999999999
            (le_trans (way c m s back v) reach)
            (ends_size (at p 0) (at z 0) e.first)
            (ends_size (at p 1) (at z 1) e.second)
            (ends_size (at p 2) (at z 2) e.third)
            (leb→le (k + 2 * end_rest) (j * 1000000000) f);
      }
