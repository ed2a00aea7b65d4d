-- `rounded` is floor(a / 2^v + 1/2): 2 a + 2^v, shifted by v + 1.
-- The machine's shift of a signed number is the floor of its division by a power of two, and every number stays below 2^63.
use mathlib.Core.Path.{◌≡◌, refl, ap, ◌∙◌}
use Prim.Native.Nat.{ℕ, ◌+◌, ◌*◌, ◌%◌, ◌^◌, ◌≤◌}
use native.Mathlib.Nat.{one-mul, mul_comm}
use native.Mathlib.Omega.{arith}
use lib.Dec.{T, ltb}
use lib.IntN.{ℤ, pos, negsuc, ◌+ℤ◌, ◌*ℤ◌}
use lib.Pow.{pow-add, pow_mono, shl_exact}
use lib.Signed.{shr_z}
use mir.Syntax.{w64}
use mir.Val.{to_z}
use Rattle.integers.specs.Floor.{floor_div}
use Rattle.integers.proofs.Cast.{read, back}
use Rattle.integers.proofs.Floor.{floor_fits}
use Rattle.integers.proofs.Number.{Num, lit, arg, of_unsigned, mul, mul_fits, add, add_fits, w_fits}
use Rattle.dates.proofs.rounded.Goals as goal
use Rattle.dates.proofs.rounded.Goals.{Start}

shift_is_floor : (z : ℤ) (m : ℕ) → shr_z z m ≡ floor_div z m
shift_is_floor (pos n) m = refl
shift_is_floor (negsuc n) m = refl

shifted : {x z : ℤ} {n : ℕ} (m : ℕ) → Num x z n → T (ltb n (2 ^ 63)) → read (shr_z x m) ≡ floor_div z m
shifted {x} {z} m p t = ap read (shift_is_floor x m ∙ (λ i. floor_div (p.is i) m)) ∙ back (floor_div z m) (floor_fits z m (w_fits p.small t))

one_shifted : (v : ℕ) → v ≤ 59 → 1 * 2 ^ v % 2 ^ 64 ≡ 2 ^ v
one_shifted v h = shl_exact 1 v 64 (omega arith) (omega arith) ∙ one-mul (2 ^ v)

unit : (c : Start) → Num (to_z w64 (1 * 2 ^ c.args.v % 2 ^ 64)) (pos (2 ^ c.args.v)) 576460752303423488
unit c = rw (one_shifted c.args.v c.requires.power) (of_unsigned (pow_mono c.requires.power) tt)

doubled : (c : Start) → Num (read (pos 2 *ℤ read c.args.a)) (pos 2 *ℤ c.args.a) 810647932926689280
doubled c = mul (lit (pos 2)) (arg c.ranges.a c.requires.number) tt

pub overflow_cast-unit : goal.overflow_cast-unit
overflow_cast-unit c = rw (one_shifted c.args.v c.requires.power) (w_fits (unit c).small tt)

pub overflow_mul-result : goal.overflow_mul-result
overflow_mul-result c = mul_fits (lit (pos 2)) (arg c.ranges.a c.requires.number) tt

pub overflow_add-result : goal.overflow_add-result
overflow_add-result c = add_fits (doubled c) (unit c) tt

pub returns : goal.returns
returns c =
    let a = c.args.a in
    let v = c.args.v in
    shifted (2 ^ (v + 1)) (add (doubled c) (unit c) tt) tt ∙ ap (floor_div (pos 2 *ℤ a +ℤ pos (2 ^ v))) (pow-add 2 v 1 ∙ mul_comm (2 ^ v) 2)
