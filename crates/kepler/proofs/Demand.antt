-- Demand 3: the eccentric anomaly is the best whole one there is, ties to the smaller; error below a millionth of a degree; it does not
-- fall where M rises; no M is refused. Each theorem carries a law of rising functions to angles.
use mathlib.Core.Path.{◌≡◌, refl, subst, sym, ap, ◌∙◌}
use mathlib.Core.Bool.{Bool, true, false}
use Prim.Native.Nat.{ℕ, ◌*◌, ◌<◌, ◌≤◌}
use native.Mathlib.Omega.{arith}
use lib.IntN.{ℤ, pos, nat_abs, ◌-ℤ◌, ◌*ℤ◌}
use lib.Signed.{◌≤ℤ◌}
use Rattle.integers.proofs.Difference.{zarith, d_mul, d_minus, d_abs}
use Rattle.integers.proofs.Ring.{sub_mono}
use Rattle.integers.proofs.Ranges.{is_inside, is_outside, inside_of, outside_of, range_size, range_most}
use Rattle.angles.specs.Unit.{one_turn, angle_of}
use Rattle.angles.specs.Sine.{sine_of}
use Rattle.angles.proofs.Turns.{one_turn_low, one_turn_high, one_turn_again}
use Rattle.refusals.specs.declared.Refusal.TheVariants.{NoEllipse}
use Rattle.std.specs.Prelude.{Ok, Err}
use Rattle.kepler.specs.Equation.{e_star, F, error_of, Candidate, Elliptic, Solves}
use Rattle.kepler.specs.Eccentric.{angle_at, last_below, nearer_of, eccentric}
use Rattle.kepler.specs.Answer.{is_elliptic, solved_if, solved_of, Answers}
use Rattle.kepler.specs.Search.{raised, point_of}
use Rattle.kepler.proofs.Rising.{monotone}
use Rattle.kepler.proofs.Grid.{star, star_small, rising, at_point, point_below, point_mono, solves, nearest_of}
use Rattle.kepler.proofs.Halving.{taken}

-- a mean anomaly in one turn, and its grid point
pub turned : (M : ℤ) → Candidate (one_turn M)
turned M = record { low = one_turn_low M; high = let h = one_turn_high M in omega (zarith, h) }

pub point_of_turn : (M : ℤ) → one_turn M ≡ angle_at (point_of (one_turn M))
point_of_turn M = sym (at_point (one_turn M) (turned M))

pub turn_below_end : (M : ℤ) → point_of (one_turn M) < 360000000
turn_below_end M = point_below (one_turn M) (one_turn_high M)

-- ---- the computing function solves
solves_at : (e : ℕ) → e ≤ 90000000 → (M : ℤ) → Solves (pos e) M (eccentric (pos e) M)
unfolding eccentric
solves_at e h M =
    let q = point_of (one_turn M) in
    let t = taken (star e) q (star_small e h) (turn_below_end M) in
    let s = solves e h M q (point_of_turn M) t.point t.nearest t.near in
    subst (Solves (pos e) M) (sym t.is ∙ ap (λ (z : ℤ). nearer_of (pos (star e)) z (last_below (pos (star e)) z)) (sym (point_of_turn M))) s

pub eccentric_solves : (e M : ℤ) → Elliptic e → Solves e M (eccentric e M)
eccentric_solves e M h = subst (λ (z : ℤ). Solves z M (eccentric z M)) (range_size 0 e h) (solves_at (nat_abs e) (range_most 0 e h) M)

-- ---- of two mean anomalies within the turn the larger never gets the smaller answer
rises_at : (e : ℕ) → e ≤ 90000000 → (M N A B : ℤ) → one_turn M ≤ℤ one_turn N → Solves (pos e) M A → Solves (pos e) N B → A ≤ℤ B
rises_at e h M N A B l a b =
    let p = nearest_of e h M (point_of (one_turn M)) (point_of_turn M) A a in
    let q = nearest_of e h N (point_of (one_turn N)) (point_of_turn N) B b in
    let o = point_mono (one_turn M) (one_turn N) (turned M) (turned N) l in
    let m = monotone (raised (star e)) 360000000 (rising (star e) (star_small e h)) (1000000000 * point_of (one_turn M)) (1000000000 * point_of (one_turn N)) (point_of A) (point_of B) (omega arith) p q in
    between A B (at_point A a.within) (at_point B b.within) (sub_mono 180000000 (point_of A) (point_of B) m)
  where
    between : (A B : ℤ) → angle_at (point_of A) ≡ A → angle_at (point_of B) ≡ B → angle_at (point_of A) ≤ℤ angle_at (point_of B) → A ≤ℤ B
    between A B x y h = subst (λ (z : ℤ). z ≤ℤ B) x (subst (λ (z : ℤ). angle_at (point_of A) ≤ℤ z) y h)

pub answers_rise : (e M N A B : ℤ) → Elliptic e → one_turn M ≤ℤ one_turn N → Solves e M A → Solves e N B → A ≤ℤ B
answers_rise e M N A B h l a b =
    let p = sym (range_size 0 e h) in
    rises_at (nat_abs e) (range_most 0 e h) M N A B l (subst (λ (z : ℤ). Solves z M A) p a) (subst (λ (z : ℤ). Solves z N B) p b)

pub eccentric_rises : (e M N : ℤ) → Elliptic e → one_turn M ≤ℤ one_turn N → eccentric e M ≤ℤ eccentric e N
eccentric_rises e M N h l = answers_rise e M N (eccentric e M) (eccentric e N) h l (eccentric_solves e M h) (eccentric_solves e N h)

-- ---- only one number solves, and it is the computing function's
pub only_one_solves : (e M E : ℤ) → Elliptic e → Solves e M E → E ≡ eccentric e M
only_one_solves e M E h s =
    let t = eccentric_solves e M h in
    let a = answers_rise e M M E (eccentric e M) h (omega zarith) s t in
    let b = answers_rise e M M (eccentric e M) E h (omega zarith) t s in
    omega (zarith, a, b)

-- ---- the error is below 10^9, a millionth of a degree
pub error_below : (e M : ℤ) → Elliptic e → error_of (e_star e) (one_turn M) (eccentric e M) < 1000000000
error_below e M h = (eccentric_solves e M h).near

-- ---- no M is refused, and every other e is
pub none_refused : (e M : ℤ) → Elliptic e → solved_of e M ≡ Ok (angle_of (eccentric e M))
none_refused e M h = ap (λ (b : Bool). solved_if b e M) (is_inside (pos 0) (pos 90000000) e h)

pub refused_otherwise : (e M : ℤ) → (Elliptic e → ⊥) → solved_of e M ≡ Err NoEllipse
refused_otherwise e M h = ap (λ (b : Bool). solved_if b e M) (is_outside (pos 0) (pos 90000000) e h)

-- the definition's answer is what document 01 asks for in its own words
pub answers_as_asked : (e M : ℤ) → Answers e M (solved_of e M)
answers_as_asked e M = go (is_elliptic e) refl
  where
    go : (b : Bool) → is_elliptic e ≡ b → Answers e M (solved_if b e M)
    go true x = let h = inside_of (pos 0) (pos 90000000) e x in (h, eccentric_solves e M h)
    go false x = (refl, outside_of (pos 0) (pos 90000000) e x)

-- ---- a circle: E is M
no_error : (M E : ℤ) → E ≡ M → error_of (pos 0) M E ≡ 0
unfolding error_of F
no_error M E h =
    let x = pos 1000000000 *ℤ M in
    let w = pos 1000000000 *ℤ E in
    let y = pos 0 *ℤ sine_of E in
    let e : w ≡ x = ap (λ (z : ℤ). pos 1000000000 *ℤ z) h in
    let z : x -ℤ (w -ℤ y) ≡ pos 0 = omega (zarith, e, d_mul (pos 0) (sine_of E), d_minus w y, d_minus x (w -ℤ y)) in
    ap nat_abs z

exact : (M E : ℤ) → error_of (pos 0) M E ≤ 0 → E ≡ M
unfolding error_of F
exact M E h =
    let x = pos 1000000000 *ℤ M in
    let w = pos 1000000000 *ℤ E in
    let y = pos 0 *ℤ sine_of E in
    omega (zarith, d_mul (pos 1000000000) M, d_mul (pos 1000000000) E, d_mul (pos 0) (sine_of E), d_minus w y, d_minus x (w -ℤ y), d_abs (x -ℤ (w -ℤ y)))

pub circle : (M : ℤ) → eccentric (pos 0) M ≡ one_turn M
circle M =
    let s = solves_at 0 (omega arith) M in
    let b = s.best (one_turn M) (turned M) in
    exact (one_turn M) (eccentric (pos 0) M) (subst (λ (n : ℕ). error_of (pos 0) (one_turn M) (eccentric (pos 0) M) ≤ n) (no_error (one_turn M) (one_turn M) refl) b)

-- ---- M brought to one turn gives the same answer as M
pub turn_first : (e M : ℤ) → solved_of e (one_turn M) ≡ solved_of e M
unfolding eccentric
turn_first e M = go (is_elliptic e)
  where
    go : (b : Bool) → solved_if b e (one_turn M) ≡ solved_if b e M
    go true = ap (λ (z : ℤ). Ok (angle_of (nearer_of (e_star e) z (last_below (e_star e) z)))) (one_turn_again M)
    go false = refl
