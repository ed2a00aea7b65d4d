-- The frames' rotations, and RTN's, hardly stretch a vector.
-- GEI and HCI by computation; HEE, HEEQ and RTN by the lengths and angles of unit vectors and cross products.
use mathlib.Core.Path.{◌≡◌, refl, sym, ap, subst, ◌∙◌}
use mathlib.Core.Bool.{Bool, true, false, cond}
use mathlib.Core.List.{List, [], ◌∷◌}
use Prim.Native.Nat.{ℕ, zero, suc, ◌+◌, ◌*◌, ◌≤◌, ◌<◌, zero-le}
use native.Mathlib.Nat.{mul-le-mul, mul-le-mul_right, le_trans, mul-zero}
use native.Mathlib.Omega.{arith}
use lib.Dec.{T, leb}
use lib.IntN.{ℤ, pos, negsuc, neg_ℤ, nat_abs, ◌+ℤ◌, ◌*ℤ◌}
use Rattle.integers.specs.Range.{Within}
use Rattle.integers.specs.Sign.{same}
use Rattle.integers.proofs.Difference.{up, dn, zarith, d_mul, d_add, up_neg, dn_neg}
use Rattle.integers.proofs.Number.{w_floor_any, w_most}
use Rattle.integers.proofs.Ring.{abs_neg}
use Rattle.integers.proofs.Ends.{end_rest}
use Rattle.integers.specs.Triple.{at, PartsWithin}
use Rattle.integers.proofs.Triples.{parts_more}
use Rattle.vectors.specs.Vector.{dot_of, applied, way_of, squares_of, length_of, over_length, unit_of, cross_of}
use Rattle.vectors.specs.Range.{TurnFits, NoLonger}
use Rattle.frames.specs.Range.{NearEcliptic, EarthFits}
use Rattle.frames.specs.Frame.{KnownFrame, HasRows, gei_rows, hci_rows, solar_axis, on_ecliptic, axis_cross, hee_of, hee_rows, heeq_of, heeq_rows, rotation_of, hae_turned, turned_between}
use Rattle.frames.specs.Rtn.{rtn_of, rtn_rows}
use Rattle.frames.proofs.Choice.{past_hae}
use Rattle.vectors.proofs.Lengths.{squares_fit}
use Rattle.frames.proofs.Rows.{gei_numbers, gei_is, hci_numbers, hci_is, axis_is, ecliptic_small, across_small}
use Rattle.frames.proofs.Earth.{earth_long, ecliptic_long, across_long}
use Rattle.vectors.proofs.Dots.{dot_comm}
use Rattle.vectors.proofs.Norms.{NearlyUnit, Stretches, stretches}
use Rattle.vectors.proofs.Turns.{no_longer_than, longer, turn_fits, turned_long}
use Rattle.vectors.proofs.Crosses.{unit_long, unit_dot, cross_long, cross_left, cross_right}

pub stretches_more : {c d : ℕ} (m : List (List ℤ)) → Stretches c m → c ≤ d → Stretches d m
stretches_more m s l =
    record { there = λ v. le_trans (s.there v) (mul-le-mul_right (squares_of v) l); back = λ v. le_trans (s.back v) (mul-le-mul_right (squares_of v) l) }

-- ---- GEI, HCI and the solar axis
gei_nearly : NearlyUnit 1000000000000000000 0 gei_numbers
gei_nearly = record { first = omega arith; second = omega arith; third = omega arith; first_second = omega arith; first_third = omega arith; second_third = omega arith }

hci_nearly : NearlyUnit 1000000000000000000 92083926990 hci_numbers
hci_nearly = record { first = omega arith; second = omega arith; third = omega arith; first_second = omega arith; first_third = omega arith; second_third = omega arith }

pub gei_stretches : Stretches 1000000000000000000 gei_rows
gei_stretches = subst (Stretches 1000000000000000000) (sym gei_is) (stretches 1000000000000000000 0 gei_numbers gei_nearly)

pub hci_stretches : Stretches 1000000184167853980 hci_rows
hci_stretches = subst (Stretches 1000000184167853980) (sym hci_is) (stretches 1000000000000000000 92083926990 hci_numbers hci_nearly)

axis_squares : squares_of solar_axis ≤ 1000000000 * 1000000000
axis_squares = subst (λ (a : List ℤ). squares_of a ≤ 1000000000 * 1000000000) (sym axis_is) (omega arith)

-- ---- HEE: X is on the ecliptic, and Y is X turned by a quarter
zero_of : (z : ℤ) → nat_abs z ≤ 0 → z ≡ pos 0
zero_of (pos zero) h = refl
zero_of (pos (suc n)) h = absurd (omega arith)
zero_of (negsuc n) h = absurd (omega arith)

over_flat : (l : ℕ) (x y : ℤ) → at (over_length l (x ∷ y ∷ pos 0 ∷ [])) 2 ≡ pos 0
over_flat zero x y = refl
over_flat (suc l) x y = zero_of _ (w_floor_any {a = pos 0} {n = 0} (suc l) (record { within = zero-le })).within

module _ (x y z : ℤ) where
  quarter : x *ℤ neg_ℤ y +ℤ y *ℤ x +ℤ z *ℤ pos 0 ≡ pos 0
  quarter =
      omega (
        zarith,
        d_mul x (neg_ℤ y),
        ap (λ (n : ℕ). up x * n) (up_neg y),
        ap (λ (n : ℕ). up x * n) (dn_neg y),
        ap (λ (n : ℕ). dn x * n) (up_neg y),
        ap (λ (n : ℕ). dn x * n) (dn_neg y),
        d_mul y x,
        d_mul z (pos 0),
        d_add (x *ℤ neg_ℤ y) (y *ℤ x),
        d_add (x *ℤ neg_ℤ y +ℤ y *ℤ x) (z *ℤ pos 0),
      )

  upright : z ≡ pos 0 → x *ℤ pos 0 +ℤ y *ℤ pos 0 +ℤ z *ℤ pos 1000000000 ≡ pos 0
  upright e = omega (zarith, d_mul x (pos 0), d_mul y (pos 0), d_mul z (pos 1000000000), d_add (x *ℤ pos 0) (y *ℤ pos 0), d_add (x *ℤ pos 0 +ℤ y *ℤ pos 0) (z *ℤ pos 1000000000))

flat_nearly : (a : ℕ) (X : List ℤ) → at X 2 ≡ pos 0 → squares_of X ≤ a → 1000000000000000000 ≤ a → NearlyUnit a 0 (hee_of X)
flat_nearly a X e h l =
    record {
      first = h;
      second = rw (abs_neg (at X 1)) (omega arith);
      third = l;
      first_second = record { within = rw (quarter (at X 0) (at X 1) (at X 2)) (omega arith) };
      first_third = record { within = rw (upright (at X 0) (at X 1) (at X 2) e) (omega arith) };
      second_third = record { within = rw (upright (neg_ℤ (at X 1)) (at X 0) (pos 0) refl) (omega arith) };
    }

hee_stretches : (earth : List ℤ) → PartsWithin 1000000000 earth → NearEcliptic earth → Stretches 1000000220000012100 (hee_rows earth)
unfolding hee_rows unit_of
hee_stretches earth p e =
    let f = on_ecliptic earth in
    let fits = squares_fit f (parts_more (ecliptic_small earth p) tt) in
    let long = unit_long f fits 108 (omega (arith, ecliptic_long earth p e)) in
    stretches 1000000220000012100 0 (hee_of (unit_of f)) (flat_nearly 1000000220000012100 (unit_of f) (over_flat (length_of f) (at earth 0) (at earth 1)) long (omega arith))

-- ---- U, the unit vector of a place r of a length of at least 10^9 / k; W = S×U of at least 10^9 / j; and the unit vector of W
swap : {b : ℕ} (r s : List ℤ) → nat_abs (dot_of r s) ≤ b → Within b (dot_of s r)
swap {b} r s h = record { within = rw (dot_comm s r) h }

module _ (r : List ℤ) (p : PartsWithin 1000000000 r) (k j : ℕ) (g : 1000000000 ≤ k * length_of r) (h : 1000000000 ≤ j * length_of (axis_cross r)) where
  U_long : squares_of (unit_of r) ≤ (1000000002 + k) * (1000000002 + k)
  U_long = unit_long r (squares_fit r (parts_more p tt)) k g

  Y_long : squares_of (unit_of (axis_cross r)) ≤ (1000000002 + j) * (1000000002 + j)
  Y_long = unit_long (axis_cross r) (squares_fit (axis_cross r) (across_small r p)) j h

  far : 0 < length_of (axis_cross r)
  far = positive (length_of (axis_cross r)) h
    where
      positive : (l : ℕ) → 1000000000 ≤ j * l → 0 < l
      positive zero i = absurd (omega (arith, mul-zero j))
      positive (suc l) i = omega arith

  -- a vector at right angles to W but for b is at right angles to its unit vector but for b j, and 2 for its own length
  Y_dot : (a : List ℤ) (i b : ℕ) → squares_of a ≤ i * i → nat_abs (dot_of a (axis_cross r)) ≤ b → nat_abs (dot_of a (unit_of (axis_cross r))) ≤ b * j + 2 * i
  Y_dot a i b l o =
      let x = mul-le-mul o h in
      unit_dot a (axis_cross r) i (b * j) far l (omega arith)

  S_Y : nat_abs (dot_of solar_axis (unit_of (axis_cross r))) ≤ 2 * 1000000000 * j + 2 * 1000000000
  S_Y = Y_dot solar_axis 1000000000 (2 * 1000000000) axis_squares (cross_left solar_axis (unit_of r) 1000000000 (1000000002 + k) axis_squares U_long)

  U_Y : nat_abs (dot_of (unit_of r) (unit_of (axis_cross r))) ≤ 2 * (1000000002 + k) * j + 2 * (1000000002 + k)
  U_Y = Y_dot (unit_of r) (1000000002 + k) (2 * (1000000002 + k)) U_long (cross_right solar_axis (unit_of r) 1000000000 (1000000002 + k) axis_squares U_long)

heeq_stretches : (earth : List ℤ) → PartsWithin 1000000000 earth → NearEcliptic earth → Stretches 1000000024000000036 (heeq_rows earth)
unfolding heeq_rows
heeq_stretches earth p e =
    let g : 1000000000 ≤ 108 * length_of earth = omega (arith, earth_long earth p e) in
    let h : 1000000000 ≤ 2 * length_of (axis_cross earth) = omega (arith, across_long earth p e) in
    let Y = unit_of (axis_cross earth) in
    let y = Y_long earth p 108 2 g h in
    let s = axis_squares in
    stretches 1000000012000000036 6000000000 (heeq_of (unit_of (axis_cross earth)))
    (record {
      first = cross_long Y solar_axis 1000000004 1000000000 y s 1000000006 (omega arith);
      second = omega arith;
      third = omega arith;
      first_second = w_most (swap Y (cross_of Y solar_axis) (cross_left Y solar_axis 1000000004 1000000000 y s)) (omega arith);
      first_third = w_most (swap solar_axis (cross_of Y solar_axis) (cross_right Y solar_axis 1000000004 1000000000 y s)) (omega arith);
      second_third = w_most (swap solar_axis Y (S_Y earth p 108 2 g h)) (omega arith);
    })

-- RTN, where it has a direction
pub rtn_stretches : (r : List ℤ) → PartsWithin 1000000000 r → 100000 ≤ length_of r → 1000000 ≤ length_of (axis_cross r) → Stretches 1000026018161202057 (rtn_rows r)
unfolding rtn_rows
rtn_stretches r p l q =
    let g : 1000000000 ≤ 10000 * length_of r = omega arith in
    let h : 1000000000 ≤ 1000 * length_of (axis_cross r) = omega arith in
    let R = unit_of r in
    let T = unit_of (axis_cross r) in
    let u = U_long r p 10000 1000 g h in
    let y = Y_long r p 10000 1000 g h in
    stretches 1000022014121154049 2002020024004 (rtn_of (unit_of r) (unit_of (axis_cross r)))
    (record {
      first = omega arith;
      second = omega arith;
      third = cross_long R T 1000010002 1000001002 u y 1000011007 (omega arith);
      first_second = w_most (record { within = U_Y r p 10000 1000 g h }) (omega arith);
      first_third = w_most (record { within = cross_left R T 1000010002 1000001002 u y }) (omega arith);
      second_third = w_most (record { within = cross_right R T 1000010002 1000001002 u y }) (omega arith);
    })

-- ---- any frame, with the Earth's place that it asks for
module _ (earth : List ℤ) where
  pub rotation_stretches : (f : ℤ) → HasRows f → EarthFits f earth → Stretches 1000001000000000000 (rotation_of f earth)
  unfolding rotation_of
  rotation_stretches (pos zero) h e = absurd h.low.le
  rotation_stretches (pos (suc zero)) h e = absurd h.low.le
  rotation_stretches (pos (suc (suc zero))) h e = stretches_more gei_rows gei_stretches (omega arith)
  rotation_stretches (pos (suc (suc (suc zero)))) h e = stretches_more hci_rows hci_stretches (omega arith)
  rotation_stretches (pos (suc (suc (suc (suc zero))))) h e = stretches_more (hee_rows earth) (hee_stretches earth e.parts (e.near tt)) (omega arith)
  rotation_stretches (pos (suc (suc (suc (suc (suc zero)))))) h e = stretches_more (heeq_rows earth) (heeq_stretches earth e.parts (e.near tt)) (omega arith)
  rotation_stretches (pos (suc (suc (suc (suc (suc (suc n))))))) h e = absurd (omega (zarith, h.high))
  rotation_stretches (negsuc n) h e = absurd h.low.le

  -- the sums of a turn from HAE or to it fit 64 bits, of a vector that such a turn may have given
  pub hae_turn_fits : (back : Bool) (f : ℤ) (v : List ℤ) → HasRows f → EarthFits f earth → NoLonger 1732052000 v → TurnFits (way_of back (rotation_of f earth)) v
  hae_turn_fits back f v h e l = turn_fits 1000001000000000000 (rotation_of f earth) (rotation_stretches f h e) 1732052000 1732054000000000000 v l tt tt back

  -- a turn makes a vector longer by half a millionth, and by twice the rest of its divisions, at most: from n to j, where 1.000001 n² is
  -- at most k², and k and two rests are at most j 10^9
  pub hae_turned_long : (back : Bool) (f : ℤ) (n k j : ℕ) (v : List ℤ) → KnownFrame f → EarthFits f earth → NoLonger n v → T (leb (1000001000000000000 * (n * n)) (k * k)) → T (leb (k + 2 * end_rest) (j * 1000000000)) → T (leb n j) → NoLonger j (hae_turned back f earth v)
  unfolding hae_turned
  hae_turned_long back f n k j v h e l t r s = go (same f (pos 1)) (λ b. past_hae f h (λ q. subst T (ap (λ (x : ℤ). same x (pos 1)) (sym q) ∙ b) tt))
    where
      go : (b : Bool) → (b ≡ false → HasRows f) → NoLonger j (cond b v (applied (way_of back (rotation_of f earth)) v))
      go true g = longer l s
      go false g = turned_long 1000001000000000000 (rotation_of f earth) (rotation_stretches f (g refl) e) n k v l t back j r

  -- ---- between two frames: what has parts within n is no longer than j, by way of a vector of HAE no longer than i
  pub between_long : (f g : ℤ) (a n k i l j : ℕ) (v : List ℤ) → KnownFrame f → KnownFrame g → EarthFits f earth → EarthFits g earth → PartsWithin a v → T (leb (3 * (a * a)) (n * n)) → T (leb (1000001000000000000 * (n * n)) (k * k)) → T (leb (k + 2 * end_rest) (i * 1000000000)) → T (leb n i) → T (leb (1000001000000000000 * (i * i)) (l * l)) → T (leb (l + 2 * end_rest) (j * 1000000000)) → T (leb i j) → NoLonger j (turned_between f g earth v)
  unfolding turned_between
  between_long f g a n k i l j v hf hg ef eg p t1 t2 t3 t4 t5 t6 t7 = go (same f g)
    where
      given : NoLonger n v
      given = no_longer_than a n v p t1

      go : (b : Bool) → NoLonger j (cond b v (hae_turned false g earth (hae_turned true f earth v)))
      go true = longer (longer given t4) t7
      go false = hae_turned_long false g i l j (hae_turned true f earth v) hg eg (hae_turned_long true f n k i v hf ef given t2 t3 t4) t5 t6 t7

-- ---- RTN where it is not refused: the sums of a turn of a vector within the limits fit
pub rtn_turn_fits : (back : Bool) (r v : List ℤ) → PartsWithin 1000000000 r → 100000 ≤ length_of r → 1000000 ≤ length_of (axis_cross r) → PartsWithin 500000000 v → TurnFits (way_of back (rtn_rows r)) v
rtn_turn_fits back r v p l q w = turn_fits 1000026018161202057 (rtn_rows r) (rtn_stretches r p l q) 866025404 870000000000000000 v (no_longer_than 500000000 866025404 v w tt) tt tt back
