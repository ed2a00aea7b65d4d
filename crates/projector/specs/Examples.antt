-- Counts in au, each beside the bits of its double, by computation on the definition.
use Rattle.std.specs.Prelude.{List, [], ◌∷◌, map, ◌≡◌, refl, ℕ, ℤ, pos, negsuc}
use Rattle.std.specs.Float.{binary64}
use Rattle.std.specs.Float.Ieee.{div, of_int, of_bits}
use Rattle.projector.specs.Au.{au, in_au, nowhere}

abbrev pub counts : List (ℤ × ℕ)
counts =
    -- 1.0 and -0.5
    (pos 10000000, 0x3ff0_0000_0000_0000)
    ∷ (negsuc 4999999, 0xbfe0_0000_0000_0000)
    -- 1e-7 and -1e-7
    ∷ (pos 1, 0x3e7a_d7f2_9abc_af48)
    ∷ (negsuc 0, 0xbe7a_d7f2_9abc_af48)
    -- 1.3e-6, of which the product of 13 and 1e-7 falls short
    ∷ (pos 13, 0x3eb5_cf75_1db9_4e6b)
    -- 49.9999999
    ∷ (pos 499999999, 0x4048_ffff_ff29_406b)
    ∷ []

pub counts_in_au : map (λ (e : ℤ × ℕ). au e.0) counts ≡ map (λ (e : ℤ × ℕ). of_bits binary64 e.1) counts
unfolding div of_int of_bits
counts_in_au = refl

-- no count at all is what a refused place leaves
pub zeros_are_nowhere : in_au (pos 0) (pos 0) (pos 0) ≡ nowhere
unfolding div of_int
zeros_are_nowhere = refl
