-- Opposite vectors turn into opposites between every two frames, whatever the Earth's place, and by RTN both ways, or have the same refusal
-- (02, Item 4). Every turn is `applied` (vectors, `applied_opposite`) or leaves the vector, and the tests go by what opposites share.
use mathlib.Core.Path.{◌≡◌, refl, ap, ◌∙◌}
use mathlib.Core.Bool.{Bool, true, false, cond, ◌&&◌}
use mathlib.Core.List.{List}
use lib.IntN.{ℤ, pos}
use Rattle.integers.specs.Sign.{same}
use Rattle.integers.specs.Triple.{at}
use Rattle.integers.proofs.Ranges.{range_opposite}
use Rattle.vectors.specs.Vector.{applied, way_of, opposite_of}
use Rattle.vectors.proofs.Opposites.{applied_opposite}
use Rattle.std.specs.Prelude.{Result, Ok, Err}
use Rattle.refusals.specs.declared.Refusal.{Refusal}
use Rattle.frames.specs.declared.Coordinates.{Coordinates}
use Rattle.frames.specs.Frame.{rotation_of, hae_turned, turned_between}
use Rattle.frames.specs.Answer.{in_limits, turned_vector, opposite_coordinates, opposite_turned}
use Rattle.frames.specs.Rtn.{rtn_rows, has_direction, answer_if, rtn_turned, to_rtn, from_rtn}
use Rattle.refusals.specs.Number.{status_of}

-- one of two vectors, whichever a test picks
one_of : (b : Bool) (v w : List ℤ) {x y : List ℤ} → x ≡ opposite_of v → y ≡ opposite_of w → cond b x y ≡ opposite_of (cond b v w)
one_of true v w d e = d
one_of false v w d e = e

-- ---- between frames
hae_opposite : (back : Bool) (f : ℤ) (earth v : List ℤ) → hae_turned back f earth (opposite_of v) ≡ opposite_of (hae_turned back f earth v)
unfolding hae_turned
hae_opposite back f earth v =
    let m = way_of back (rotation_of f earth) in
    one_of (same f (pos 1)) v (applied m v) refl (applied_opposite m v)

pub between_opposite : (f g : ℤ) (earth v : List ℤ) → turned_between f g earth (opposite_of v) ≡ opposite_of (turned_between f g earth v)
unfolding turned_between
between_opposite f g earth v =
    let w = hae_turned true f earth v in
    one_of (same f g) v (hae_turned false g earth w) refl (ap (hae_turned false g earth) (hae_opposite true f earth v) ∙ hae_opposite false g earth w)

-- ---- refusal 5 falls on both or on neither
pub limits_opposite : (v : List ℤ) → in_limits (opposite_of v) ≡ in_limits v
limits_opposite v = λ i. range_opposite 500000000 (at v 0) i && (range_opposite 500000000 (at v 1) i && range_opposite 500000000 (at v 2) i)

-- ---- RTN
answer_opposite : (b c : Bool) (w : List ℤ) → answer_if b c (opposite_of w) ≡ opposite_turned (answer_if b c w)
answer_opposite false c w = refl
answer_opposite true false w = refl
answer_opposite true true w = refl

rtn_opposite : (back : Bool) (r v : List ℤ) → rtn_turned back r (opposite_of v) ≡ opposite_turned (rtn_turned back r v)
unfolding rtn_turned
rtn_opposite back r v =
    let m = way_of back (rtn_rows r) in
    (λ i. answer_if (limits_opposite v i && in_limits r) (has_direction r) (applied_opposite m v i))
    ∙ answer_opposite (in_limits v && in_limits r) (has_direction r) (applied m v)

pub to_rtn_opposite : (r v : List ℤ) → to_rtn r (opposite_of v) ≡ opposite_turned (to_rtn r v)
unfolding to_rtn
to_rtn_opposite r v = rtn_opposite false r v

pub from_rtn_opposite : (r v : List ℤ) → from_rtn r (opposite_of v) ≡ opposite_turned (from_rtn r v)
unfolding from_rtn
from_rtn_opposite r v = rtn_opposite true r v

-- ---- what a caller sees of the opposite answer: the same status, and opposite coordinates, zeros where it is refused
pub opposite_status : (t : Result Coordinates Refusal) → status_of (opposite_turned t) ≡ status_of t
opposite_status (Ok p) = refl
opposite_status (Err r) = refl

pub opposite_vector : (t : Result Coordinates Refusal) → turned_vector (opposite_turned t) ≡ opposite_coordinates (turned_vector t)
opposite_vector (Ok p) = refl
opposite_vector (Err r) = refl
