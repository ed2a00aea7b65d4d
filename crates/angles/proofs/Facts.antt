-- What the table's rule says: that the list has it at each entry, and how neighbouring entries lie to each other.
-- Each is one test that antt computes over the whole table, carried to each entry by a law of `integers`.
use mathlib.Core.Path.{◌≡◌, refl}
use mathlib.Core.Bool.{Bool, ◌&&◌}
use Prim.Native.Nat.{ℕ, suc, ◌+◌, ◌-◌, ◌*◌, ◌≤◌, ◌<◌}
use native.Mathlib.Omega.{arith}
use native.Mathlib.Numerals.{add-one}
use lib.Dec.{T, leb, leb→le, eqb, eqb→eq}
use lib.ListN.{length, get_or}
use mir.Facts.{and_yes}
use Rattle.integers.proofs.Table.{at_entry, below, from_below}
use Rattle.angles.specs.Entry.{factorial, part, whole, term, plus_terms, minus_terms, entry}
use Rattle.angles.specs.Sines.{sine_entries}

-- ---- the rule at each entry
follows : ℕ → ℕ → Bool
follows n x = eqb x (entry n)

pub ruled : (n : ℕ) → n < length sine_entries → get_or sine_entries n 0 ≡ entry n
unfolding sine_entries follows entry plus_terms minus_terms term whole part factorial
ruled n h = eqb→eq (get_or sine_entries n 0) (entry n) (at_entry follows sine_entries tt n h)

small : ℕ → ℕ → Bool
small n x = leb x 1000000000

pub entry_small : (n : ℕ) → n < length sine_entries → get_or sine_entries n 0 ≤ 1000000000
unfolding sine_entries small
entry_small n h = leb→le (get_or sine_entries n 0) 1000000000 (at_entry small sine_entries tt n h)

pub entry_zero : entry 0 ≡ 0
unfolding entry plus_terms minus_terms term whole part factorial
entry_zero = refl

pub entry_top : entry 900 ≡ 1000000000
unfolding entry plus_terms minus_terms term whole part factorial
entry_top = refl

-- ---- an entry and the next: it rises, by at most 1,745,328, to at most 10^9
pub record Near (x y : ℕ) : Type 0 where
  pub rises : x ≤ y
  pub close : y ≤ x + 1745328
  pub top : y ≤ 1000000000

near : ℕ → ℕ → Bool
near x y = leb x y && (leb y (x + 1745328) && leb y 1000000000)

near_at : ℕ → Bool
near_at k = near (entry k) (entry (suc k))

all_near : T (below near_at 900)
unfolding below near_at near entry plus_terms minus_terms term whole part factorial
all_near = tt

near_at_lem : (x y : ℕ) → T (near x y) → Near x y
unfolding near
near_at_lem x y t =
    let a = and_yes (leb x y) (leb y (x + 1745328) && leb y 1000000000) t in
    let b = and_yes (leb y (x + 1745328)) (leb y 1000000000) a.1 in
    record { rises = leb→le x y a.0; close = leb→le y (x + 1745328) b.0; top = leb→le y 1000000000 b.1 }

pub neighbours : (k : ℕ) → k < 900 → Near (entry k) (entry (k + 1))
unfolding near_at
neighbours k h = rw add-one (near_at_lem (entry k) (entry (suc k)) (from_below near_at 900 all_near k h))

-- ---- the squares of the sine and the cosine at an entry, and of the rises from there: a and b are neighbours, and so are
-- c and d, a quarter turn further and going back
pub record Circle (a b c d : ℕ) : Type 0 where
  pub low : 999999998692509698 ≤ a * a + c * c
  pub high : a * a + c * c ≤ 1000000001271150589
  pub chord : (b - a) * (b - a) + (c - d) * (c - d) ≤ 3046176984852

circle : ℕ → ℕ → ℕ → ℕ → Bool
circle a b c d = leb 999999998692509698 (a * a + c * c) && (leb (a * a + c * c) 1000000001271150589 && leb ((b - a) * (b - a) + (c - d) * (c - d)) 3046176984852)

circle_at : ℕ → Bool
circle_at k = circle (entry k) (entry (suc k)) (entry (900 - k)) (entry (899 - k))

all_circle : T (below circle_at 901)
unfolding below circle_at circle entry plus_terms minus_terms term whole part factorial
all_circle = tt

circle_at_lem : (a b c d : ℕ) → T (circle a b c d) → Circle a b c d
unfolding circle
circle_at_lem a b c d t =
    let high = leb (a * a + c * c) 1000000001271150589 in
    let chord = leb ((b - a) * (b - a) + (c - d) * (c - d)) 3046176984852 in
    let x = and_yes (leb 999999998692509698 (a * a + c * c)) (high && chord) t in
    let y = and_yes high chord x.1 in
    record {
      low = leb→le 999999998692509698 (a * a + c * c) x.0;
      high = leb→le (a * a + c * c) 1000000001271150589 y.0;
      chord = leb→le ((b - a) * (b - a) + (c - d) * (c - d)) 3046176984852 y.1;
    }

pub circles : (k : ℕ) → k ≤ 900 → Circle (entry k) (entry (k + 1)) (entry (900 - k)) (entry (899 - k))
unfolding circle_at
circles k h = rw add-one (circle_at_lem (entry k) (entry (suc k)) (entry (900 - k)) (entry (899 - k)) (from_below circle_at 901 all_circle k (omega arith)))
