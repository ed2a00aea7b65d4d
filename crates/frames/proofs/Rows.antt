-- The numbers of GEI, HCI and the solar axis, and bounds on what unit vectors and cross products are taken of.
-- The numbers by computing the definitions; the bounds from those of unit vectors and cross products.
use mathlib.Core.Path.{◌≡◌, refl, subst, sym, ap}
use mathlib.Core.List.{List, [], ◌∷◌}
use lib.IntN.{ℤ, pos, negsuc}
use Rattle.integers.specs.Triple.{PartsWithin}
use Rattle.integers.proofs.Number.{w_lit, w_more}
use Rattle.integers.proofs.Table.{all_within_lem}
use Rattle.integers.proofs.Triples.{three, parts_more}
use Rattle.angles.specs.Unit.{one_turn}
use Rattle.angles.specs.Entry.{factorial, part, whole, term, plus_terms, minus_terms, entry}
use Rattle.angles.specs.Sine.{quarter_sine, half_sine, sine_of, cosine_of}
use Rattle.vectors.specs.Vector.{row_at, unit_of}
use Rattle.frames.specs.Frame.{gei_rows, hci_rows, solar_axis, on_ecliptic, axis_cross}
use Rattle.vectors.proofs.Lengths.{squares_fit, unit_small, cross_within}

-- ---- the numbers of GEI, HCI and the solar axis
abbrev pub gei_numbers : List (List ℤ)
gei_numbers =
    (pos 1000000000 ∷ pos 0 ∷ pos 0 ∷ [])
    ∷ (pos 0 ∷ pos 917481729 ∷ negsuc 397777008 ∷ [])
    ∷ (pos 0 ∷ pos 397777009 ∷ pos 917481729 ∷ [])
    ∷ []

abbrev pub axis_numbers : List ℤ
axis_numbers = pos 122321270 ∷ negsuc 31042918 ∷ pos 992004572 ∷ []

abbrev pub hci_numbers : List (List ℤ)
hci_numbers =
    (pos 245984036 ∷ pos 969273502 ∷ pos 0 ∷ [])
    ∷ (negsuc 961523744 ∷ pos 244017288 ∷ pos 126198921 ∷ [])
    ∷ axis_numbers
    ∷ []

pub gei_is : gei_rows ≡ gei_numbers
unfolding gei_rows cosine_of sine_of one_turn half_sine quarter_sine entry plus_terms minus_terms term whole part factorial
gei_is = refl

pub hci_is : hci_rows ≡ hci_numbers
unfolding hci_rows cosine_of sine_of one_turn half_sine quarter_sine entry plus_terms minus_terms term whole part factorial
hci_is = refl

pub axis_is : solar_axis ≡ axis_numbers
unfolding solar_axis
axis_is = ap (λ (m : List (List ℤ)). row_at m 2) hci_is

-- ---- what unit vectors and cross products are taken of
pub axis_small : PartsWithin 1000000000 solar_axis
axis_small = subst (PartsWithin 1000000000) (sym axis_is) (record { part = all_within_lem 1000000000 axis_numbers tt })

-- the unit vector of a place
pub unit_of_place : (v : List ℤ) → PartsWithin 1000000000 v → PartsWithin 1000000000 (unit_of v)
unit_of_place v p = unit_small v (squares_fit v (parts_more p tt))

-- the Earth's place on the ecliptic
pub ecliptic_small : (earth : List ℤ) → PartsWithin 1000000000 earth → PartsWithin 1000000000 (on_ecliptic earth)
ecliptic_small earth p = three (p.part 0) (p.part 1) (w_more (w_lit (pos 0)) tt)

-- S×U and its unit vector, U being the unit vector of any place: HEEQ's Y, and T of RTN
module _ (r : List ℤ) (p : PartsWithin 1000000000 r) where
  pub across_small : PartsWithin 2000000000 (axis_cross r)
  across_small = cross_within solar_axis (unit_of r) axis_small (unit_of_place r p)

  pub across_unit_small : PartsWithin 1000000000 (unit_of (axis_cross r))
  across_unit_small = unit_small (axis_cross r) (squares_fit (axis_cross r) across_small)
