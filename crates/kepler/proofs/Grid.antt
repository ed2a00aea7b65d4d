-- The signed equation and the search over grid points say the same: grid point n is the angle n - 180,000,000, and F there is `raised` less 180·10^15.
-- sin(n - 180°) = -sin n takes the sine to a half turn with no sign; the rest is differences of naturals.
use mathlib.Core.Path.{◌≡◌, subst, subst₂, sym, ap, ◌∙◌}
use Prim.Native.Nat.{ℕ, suc, ◌+◌, ◌-◌, ◌*◌, ◌/◌, ◌%◌, ◌≤◌, ◌<◌}
use native.Mathlib.Decide.{dec_lt}
use native.Mathlib.Omega.{arith}
use lib.Dec.{leb→le, ltb→lt}
use lib.IntN.{ℤ, pos, negsuc, neg_ℤ, sub_ℕ, ◌+ℤ◌, ◌-ℤ◌, ◌*ℤ◌, neg_ℤ-neg_ℤ}
use lib.Signed.{◌≤ℤ◌, ◌<ℤ◌}
use Rattle.integers.specs.Range.{apart}
use Rattle.integers.proofs.Difference.{zarith, d_sub, d_add, d_minus, d_mul, up_neg, dn_neg}
use Rattle.integers.proofs.Ring.{mul_neg, sub_ge, sub_lt, abs_sub, sub_mono}
use Rattle.angles.specs.Unit.{one_turn}
use Rattle.angles.specs.Sine.{half_sine, sine_of}
use Rattle.angles.proofs.Turns.{turn}
use Rattle.angles.proofs.Laws.{turn_sine, turn_sine_left, sine_is, sine_half_turn}
use Rattle.kepler.specs.Equation.{e_star, F, error_of, Candidate, Solves}
use Rattle.kepler.specs.Eccentric.{angle_at}
use Rattle.kepler.specs.Search.{raised, point_of, Nearest}
use Rattle.kepler.proofs.Rising.{Rising}
use Rattle.kepler.proofs.Climb.{half_fits, raised_low, raised_right, raised_step}

-- ---- there and back
pub low_negsuc : (j : ℕ) → Candidate (negsuc j) → j ≤ 179999999
low_negsuc j w = leb→le j 179999999 w.low.le

pub high_pos : (k : ℕ) → Candidate (pos k) → k ≤ 180000000
high_pos k w = leb→le k 180000000 w.high.le

pub at_point : (E : ℤ) → Candidate E → angle_at (point_of E) ≡ E
unfolding point_of
at_point (pos k) w = sub_ge (180000000 + k) 180000000 (omega arith) ∙ ap pos (omega arith)
at_point (negsuc j) w =
    let h = low_negsuc j w in
    sub_lt (179999999 - j) 180000000 (omega arith) ∙ ap negsuc (omega arith)

pub point_at : (n : ℕ) → n ≤ 360000000 → point_of (angle_at n) ≡ n
unfolding point_of
point_at n h = go (dec_lt n 180000000)
  where
    go : Dec (n < 180000000) → point_of (angle_at n) ≡ n
    go (yes l) = ap point_of (sub_lt n 180000000 l) ∙ omega arith
    go (no l) = ap point_of (sub_ge n 180000000 (omega arith)) ∙ omega arith

pub point_most : (E : ℤ) → Candidate E → point_of E ≤ 360000000
unfolding point_of
point_most (pos k) w = let h = high_pos k w in omega arith
point_most (negsuc j) w = omega arith

pub point_below : (z : ℤ) → z <ℤ pos 180000000 → point_of z < 360000000
unfolding point_of
point_below (pos k) h = let l = ltb→lt k 180000000 h.lt in omega arith
point_below (negsuc j) h = omega arith

pub angle_within : (n : ℕ) → n ≤ 360000000 → Candidate (angle_at n)
angle_within n h =
    record {
      low = sub_mono 180000000 0 n (omega arith);
      high = subst (λ (z : ℤ). angle_at n ≤ℤ z) (sub_ge 360000000 180000000 (omega arith)) (sub_mono 180000000 n 360000000 h);
    }

pub point_mono : (A B : ℤ) → Candidate A → Candidate B → A ≤ℤ B → point_of A ≤ point_of B
unfolding point_of
point_mono (pos a) (pos b) v w h = let k = leb→le a b h.le in omega arith
point_mono (pos a) (negsuc b) v w h = absurd h.le
point_mono (negsuc a) (pos b) v w h = omega arith
point_mono (negsuc a) (negsuc b) v w h = let k = leb→le b a h.le in omega arith

pub point_is : (z : ℤ) → Candidate z → z +ℤ pos 180000000 ≡ pos (point_of z)
unfolding point_of
point_is (pos k) w = ap pos (omega arith)
point_is (negsuc j) w = let h = low_negsuc j w in sub_ge 180000000 (suc j) (omega arith) ∙ ap pos (omega arith)

-- ---- the sine at a grid point
sine_small_turn : (n : ℕ) → n ≤ 180000000 → sine_of (pos n) ≡ pos (half_sine n)
unfolding turn
sine_small_turn n h =
    let e : n % 360000000 ≡ n = omega arith in
    sine_is (pos n) ∙ ap turn_sine e ∙ turn_sine_left n h

sine_low : (n : ℕ) → n ≤ 180000000 → sine_of (angle_at n) ≡ neg_ℤ (pos (half_sine n))
sine_low n h =
    let e : angle_at n +ℤ pos 180000000 ≡ pos n = omega (zarith, d_add (angle_at n) (pos 180000000), d_sub n 180000000) in
    sym (neg_ℤ-neg_ℤ (sine_of (angle_at n))) ∙ ap neg_ℤ (sym (sine_half_turn (angle_at n)) ∙ ap sine_of e ∙ sine_small_turn n h)

sine_high : (n : ℕ) → 180000000 ≤ n → n ≤ 360000000 → sine_of (angle_at n) ≡ pos (half_sine (n - 180000000))
sine_high n l h = ap sine_of (sub_ge n 180000000 l) ∙ sine_small_turn (n - 180000000) (omega arith)

-- ---- F at a grid point
pub F_at : (es n : ℕ) → es ≤ 51566202 → n ≤ 360000000 → F (pos es) (angle_at n) ≡ sub_ℕ (raised es n) 180000000000000000
unfolding F
F_at es n h l = go (dec_lt 180000000 n)
  where
    whole : ℤ
    whole = pos 1000000000 *ℤ angle_at n

    go : Dec (180000000 < n) → pos 1000000000 *ℤ angle_at n -ℤ pos es *ℤ sine_of (angle_at n) ≡ sub_ℕ (raised es n) 180000000000000000
    go (no d) =
        let p = raised_low es n (omega arith) in
        let y = neg_ℤ (pos (es * half_sine n)) in
        ap (λ (z : ℤ). pos 1000000000 *ℤ angle_at n -ℤ z) (ap (λ (z : ℤ). pos es *ℤ z) (sine_low n (omega arith)) ∙ mul_neg (pos es) (pos (half_sine n)))
        ∙ omega (zarith, d_minus (pos 1000000000 *ℤ angle_at n) y, d_mul (pos 1000000000) (angle_at n), up_neg (pos (es * half_sine n)), dn_neg (pos (es * half_sine n)), d_sub n 180000000, d_sub (raised es n) 180000000000000000)
    go (yes d) =
        let p = raised_right es n (omega arith) in
        let b = half_fits es (n - 180000000) h in
        let y = pos (es * half_sine (n - 180000000)) in
        ap (λ (z : ℤ). pos 1000000000 *ℤ angle_at n -ℤ pos es *ℤ z) (sine_high n (omega arith) l)
        ∙ omega (zarith, d_minus (pos 1000000000 *ℤ angle_at n) y, d_mul (pos 1000000000) (angle_at n), d_sub n 180000000, d_sub (raised es n) 180000000000000000)

pub scaled_at : (q : ℕ) → pos 1000000000 *ℤ angle_at q ≡ sub_ℕ (1000000000 * q) 180000000000000000
scaled_at q = omega (zarith, d_mul (pos 1000000000) (angle_at q), d_sub q 180000000, d_sub (1000000000 * q) 180000000000000000)

-- ---- the error at a grid point, and of any angle within
pub error_at : (es q n : ℕ) → es ≤ 51566202 → n ≤ 360000000 → error_of (pos es) (angle_at q) (angle_at n) ≡ apart (1000000000 * q) (raised es n)
unfolding error_of
error_at es q n h l = rw (scaled_at q, F_at es n h l) (abs_sub 180000000000000000 (1000000000 * q) (raised es n))

pub error_of_lem : (es q : ℕ) (E : ℤ) → es ≤ 51566202 → Candidate E → error_of (pos es) (angle_at q) E ≡ apart (1000000000 * q) (raised es (point_of E))
error_of_lem es q E h w = ap (error_of (pos es) (angle_at q)) (sym (at_point E w)) ∙ error_at es q (point_of E) h (point_most E w)

-- ---- e* of an eccentricity, and that F rises
abbrev pub star : ℕ → ℕ
star e = e * 57295780 / 100000000

pub star_small : (e : ℕ) → e ≤ 90000000 → star e ≤ 51566202
star_small e h = omega arith

pub rising : (es : ℕ) → es ≤ 51566202 → Rising (raised es) 360000000
rising es h k l = (raised_step es k h l).more

-- ---- the nearest grid point solves the equation, and what solves it is the nearest grid point
module _ (e : ℕ) (small : e ≤ 90000000) (M : ℤ) (q : ℕ) (at : one_turn M ≡ angle_at q) where
  es_most : star e ≤ 51566202
  es_most = star_small e small

  errors : (E : ℤ) → Candidate E → error_of (e_star (pos e)) (one_turn M) E ≡ apart (1000000000 * q) (raised (star e) (point_of E))
  errors E w = ap (λ (z : ℤ). error_of (pos (star e)) z E) at ∙ error_of_lem (star e) q E es_most w

  errors_at : (n : ℕ) → n ≤ 360000000 → error_of (e_star (pos e)) (one_turn M) (angle_at n) ≡ apart (1000000000 * q) (raised (star e) n)
  errors_at n h = ap (λ (z : ℤ). error_of (pos (star e)) z (angle_at n)) at ∙ error_at (star e) q n es_most h

  pub solves : (r : ℕ) → Nearest (raised (star e)) 360000000 (1000000000 * q) r → apart (1000000000 * q) (raised (star e) r) < 1000000000 → Solves (pos e) M (angle_at r)
  solves r n c =
      record {
        within = angle_within r n.within;
        best = λ E w. subst₂ ◌≤◌ (sym (errors_at r n.within)) (sym (errors E w)) (n.best (point_of E) (point_most E w));
        smallest = λ E w f. subst (λ (z : ℤ). angle_at r ≤ℤ z) (at_point E w) (sub_mono 180000000 r (point_of E)
            (n.smallest (point_of E) (point_most E w) (sym (errors E w) ∙ f ∙ errors_at r n.within)));
        near = subst (λ (k : ℕ). k < 1000000000) (sym (errors_at r n.within)) c;
      }

  pub nearest_of : (E : ℤ) → Solves (pos e) M E → Nearest (raised (star e)) 360000000 (1000000000 * q) (point_of E)
  nearest_of E s =
      record {
        within = point_most E s.within;
        best = λ k l. subst₂ ◌≤◌ (errors E s.within) (errors_at k l) (s.best (angle_at k) (angle_within k l));
        smallest = λ k l f. subst (λ (m : ℕ). point_of E ≤ m) (point_at k l) (point_mono E (angle_at k) s.within (angle_within k l)
            (s.smallest (angle_at k) (angle_within k l) (errors_at k l ∙ f ∙ sym (errors E s.within))));
      }
