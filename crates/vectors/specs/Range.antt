-- Terms of inner contracts: the ranges within which a turn overflows nowhere.
use Rattle.std.specs.Prelude.{List, ℕ, ◌+◌, ◌*◌, ◌^◌, ◌≤◌, ◌<◌, ℤ, nat_abs}
use Rattle.integers.specs.Triple.{at}
use Rattle.vectors.specs.Vector.{row_at, squares_of}

-- the products of a and v, and their sum, fit 64 bits
pub record DotFits (a v : List ℤ) : Type 0 where
  pub sum : nat_abs (at a 0) * nat_abs (at v 0) + nat_abs (at a 1) * nat_abs (at v 1) + nat_abs (at a 2) * nat_abs (at v 2) < 2 ^ 63

-- so do those of each row of m
pub record TurnFits (m : List (List ℤ)) (v : List ℤ) : Type 0 where
  pub first : DotFits (row_at m 0) v
  pub second : DotFits (row_at m 1) v
  pub third : DotFits (row_at m 2) v

-- v is no longer than n
pub record NoLonger (n : ℕ) (v : List ℤ) : Type 0 where
  pub squares : squares_of v ≤ n * n
