-- The first of numbered things that a test picks out: its place counted from 1, or 0 where there is none.
use Rattle.std.specs.Prelude.{Bool, true, false, cond, ◌≡◌, ℕ, zero, suc, ◌<◌}

-- what it is: the test picks number k, counted from 0, and none before it
pub record IsFirst (picks : ℕ → Bool) (k : ℕ) : Type 0 where
  pub picked : picks k ≡ true
  pub none_before : (j : ℕ) → j < k → picks j ≡ false

-- a function that finds its place: of n things from number k on, and of the first n
unfoldable pub first_from : (picks : ℕ → Bool) → ℕ → ℕ → ℕ
first_from picks k zero = 0
first_from picks k (suc n) = cond (picks k) (suc k) (first_from picks (suc k) n)

abbrev pub first_picked : (picks : ℕ → Bool) → ℕ → ℕ
first_picked picks n = first_from picks 0 n
