-- Document 01, "Counts used": "floor" is toward minus infinity, and `a∘b` is floor(a·b / 10^9). Document 02, Item 4: the division that ends a
-- turn goes to the nearest whole number.
use Rattle.std.specs.Prelude.{ℕ, ◌+◌, ◌*◌, ◌/◌, ◌≤◌, ◌<◌, ℤ, pos, negsuc, nat_abs, ◌+ℤ◌, ◌-ℤ◌, ◌*ℤ◌, ◌≤ℤ◌, ◌<ℤ◌}
use Rattle.std.specs.Int.Signed.{lt_z}
use Rattle.integers.specs.Sign.{signed}

-- floor(z / m). Below zero, -(a + 1) over m is -(floor(a / m) + 1)
abbrev pub floor_div : ℤ → ℕ → ℤ
floor_div (pos a) m = pos (a / m)
floor_div (negsuc a) m = negsuc (a / m)

-- what floor(z / m) leaves of z
abbrev pub floor_mod : ℤ → ℕ → ℤ
floor_mod z m = z -ℤ floor_div z m *ℤ pos m

-- q is floor(z / m) by what it does: q m is not above z, and one m more is. The law `floor_is` says that `floor_div` is the one
pub record IsFloor (z : ℤ) (m : ℕ) (q : ℤ) : Type 0 where
  pub low : (q *ℤ pos m) ≤ℤ z
  pub high : z <ℤ (q *ℤ pos m +ℤ pos m)

-- document 01's `∘`: the product of two numbers of which 10^9 stands for one
abbrev pub unit_product : ℤ → ℤ → ℤ
unit_product a b = floor_div (a *ℤ b) 1000000000

-- the division by 10^9 that ends a turn and step 5: "to the nearest whole number, a half away from zero" (02, Item 4), which is, of |z|,
-- floor((|z| + 500,000,000) / 10^9), with z's sign. Proofs cite its laws (proofs/Ends.antt), not this text
unfoldable pub end_turn : ℤ → ℤ
end_turn z = signed (lt_z z (pos 0)) ((nat_abs z + 500000000) / 1000000000)

-- q is the end of a turn by what it does: it is within half a unit, and, seen from zero, z is beyond it by less than that. The laws
-- `end_turn_is` and `end_turn_only` say that `end_turn` is the one
pub record IsEnd (z q : ℤ) : Type 0 where
  pub near : nat_abs (q *ℤ pos 1000000000 -ℤ z) ≤ 500000000
  pub beyond : nat_abs z < nat_abs q * 1000000000 + 500000000

-- floor(a / k + 1/2): a / k to the nearest whole number, a half toward plus, as a Julian date becomes its minute (01, "Counts used")
abbrev pub rounded : ℤ → ℕ → ℤ
rounded a k = floor_div (pos 2 *ℤ a +ℤ pos k) (2 * k)
