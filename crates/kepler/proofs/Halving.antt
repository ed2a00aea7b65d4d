-- The function that computes the eccentric anomaly finds the nearest grid point, so it solves the equation.
-- Each halving keeps f lo ≤ target < f hi and halves the gap; 29 of them leave two neighbours, of which the nearer is taken.
use mathlib.Core.Path.{◌≡◌, refl, subst, sym, ap, ◌∙◌}
use mathlib.Core.Bool.{Bool, true, false, cond}
use Prim.Native.Nat.{ℕ, zero, suc, ◌+◌, ◌*◌, ◌^◌, ◌≤◌, ◌<◌}
use native.Mathlib.Omega.{arith}
use lib.Dec.{leb}
use lib.IntN.{ℤ, pos, ◌+ℤ◌}
use lib.Signed.{le_z}
use borrow.Author.Tests.{leb-true, leb-false}
use Rattle.integers.specs.Range.{apart}
use Rattle.integers.proofs.Roots.{double}
use Rattle.integers.proofs.Difference.{zarith, d_sub, d_add}
use Rattle.integers.proofs.Ring.{sub_test}
use Rattle.kepler.specs.Equation.{error_of}
use Rattle.kepler.specs.Eccentric.{angle_at, middle, reaches, halved, last_below, nearer_of}
use Rattle.kepler.specs.Search.{raised, Nearest}
use Rattle.kepler.proofs.Rising.{Bracket, short, take_low, take_high}
use Rattle.kepler.proofs.Climb.{raised_step, raised_zero, raised_end}
use Rattle.kepler.proofs.Grid.{F_at, scaled_at, error_at, rising}

module _ (es q : ℕ) (small : es ≤ 51566202) where
  abbrev f : ℕ → ℕ
  f = raised es

  abbrev t : ℕ
  t = 1000000000 * q

  test : (n : ℕ) → n ≤ 360000000 → reaches (pos es) (angle_at q) n ≡ leb (f n) t
  unfolding reaches
  test n h = (λ i. le_z (F_at es n small h i) (scaled_at q i)) ∙ sub_test 180000000000000000 (f n) t

  abbrev In : ℕ → ℕ → Type 0
  In lo hi = Bracket f 360000000 t lo hi

  upper : (lo hi : ℕ) → In lo hi → leb (f (middle lo hi)) t ≡ true → In (middle lo hi) hi
  upper lo hi b e = record { order = omega arith; within = b.within; low = leb-true (f (middle lo hi)) t e; high = b.high }

  lower : (lo hi : ℕ) → In lo hi → leb (f (middle lo hi)) t ≡ false → In lo (middle lo hi)
  lower lo hi b e =
      let g = leb-false (f (middle lo hi)) t e in
      record { order = short f lo (middle lo hi) t b.low g (omega arith); within = omega arith; low = b.low; high = g }

  finds : (k : ℕ) (b : Bool) (lo hi : ℕ) → reaches (pos es) (angle_at q) (middle lo hi) ≡ b → In lo hi → hi ≤ lo + 2 ^ k → In (halved k b (pos es) (angle_at q) lo hi) (halved k b (pos es) (angle_at q) lo hi + 1)
  unfolding halved
  finds zero b lo hi e i h = let g : hi ≡ lo + 1 = omega (arith, i.order) in subst (λ (m : ℕ). In lo m) g i
  finds (suc k) true lo hi e i h =
      let d = rw (double k) at h in
      finds k (reaches (pos es) (angle_at q) (middle (middle lo hi) hi)) (middle lo hi) hi refl (upper lo hi i (sym (test (middle lo hi) (omega (arith, i.order, i.within))) ∙ e)) (omega arith)
  finds (suc k) false lo hi e i h =
      let d = rw (double k) at h in
      finds k (reaches (pos es) (angle_at q) (middle lo (middle lo hi))) lo (middle lo hi) refl (lower lo hi i (sym (test (middle lo hi) (omega (arith, i.order, i.within))) ∙ e)) (omega arith)

  start : q < 360000000 → In 0 360000000
  start h =
      let z = raised_zero es in
      let e = raised_end es in
      record { order = omega arith; within = omega arith; low = omega arith; high = omega arith }

  abbrev found : ℕ
  found = halved 29 (reaches (pos es) (angle_at q) 180000000) (pos es) (angle_at q) 0 360000000

  found_in : q < 360000000 → In found (found + 1)
  found_in h = finds 29 (reaches (pos es) (angle_at q) 180000000) 0 360000000 refl (start h) (omega arith)

  -- ---- the nearer of the two
  next : (n : ℕ) → angle_at n +ℤ pos 1 ≡ angle_at (n + 1)
  next n = omega (zarith, d_add (angle_at n) (pos 1), d_sub n 180000000, d_sub (n + 1) 180000000)

  pub record Taken (E : ℤ) : Type 0 where
    pub point : ℕ
    pub is : E ≡ angle_at point
    pub nearest : Nearest f 360000000 t point
    pub near : apart t (f point) < 1000000000

  takes : (n : ℕ) → In n (n + 1) → (b : Bool) → leb (apart t (f n)) (apart t (f (n + 1))) ≡ b → Taken (cond b (angle_at n) (angle_at n +ℤ pos 1))
  takes n i true e =
      let s = raised_step es n small (omega (arith, i.within)) in
      let l = leb-true (apart t (f n)) (apart t (f (n + 1))) e in
      record { point = n; is = refl; nearest = take_low f 360000000 (rising es small) t n (n + 1) i refl (omega (arith, i.low, i.high)); near = omega (arith, i.low, i.high, s.less) }
  takes n i false e =
      let s = raised_step es n small (omega (arith, i.within)) in
      let l = leb-false (apart t (f n)) (apart t (f (n + 1))) e in
      record { point = n + 1; is = next n; nearest = take_high f 360000000 (rising es small) t n (n + 1) i refl (omega (arith, i.low, i.high)); near = omega (arith, i.low, i.high, s.less) }

  nearer : (n : ℕ) → In n (n + 1) → Taken (nearer_of (pos es) (angle_at q) (angle_at n))
  unfolding nearer_of
  nearer n i =
      let e = error_at es q n small (omega (arith, i.within)) in
      let g = ap (error_of (pos es) (angle_at q)) (next n) ∙ error_at es q (n + 1) small i.within in
      rw (e, g) (takes n i (leb (apart t (f n)) (apart t (f (n + 1)))) refl)

  pub taken : q < 360000000 → Taken (nearer_of (pos es) (angle_at q) (last_below (pos es) (angle_at q)))
  unfolding last_below
  taken h = nearer found (found_in h)
