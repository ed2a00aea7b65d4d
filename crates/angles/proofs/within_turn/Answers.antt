-- `within_turn` brings any 64-bit count to one turn.
-- The rest of the floor division is `turn t`, and the second half of the turn is 360,000,000 less.
use mathlib.Core.Path.{◌≡◌, sym, ap, ◌∙◌}
use Prim.Native.Nat.{ℕ, ◌-◌, ◌<◌}
use native.Mathlib.Omega.{arith}
use lib.IntN.{ℤ, pos, negsuc, ◌-ℤ◌}
use Rattle.integers.specs.Range.{Within}
use Rattle.integers.specs.Floor.{floor_mod}
use Rattle.integers.proofs.Difference.{zarith, d_minus}
use Rattle.integers.proofs.Cast.{read, back}
use Rattle.integers.proofs.Number.{Num, got, lit, sub, sub_fits, less, not_less}
use Rattle.angles.proofs.Turns.{turn, turn_below, mod_is, one_turn_first, one_turn_second}
use Rattle.angles.proofs.within_turn.Goals as goal
use Rattle.angles.proofs.within_turn.Goals.{After-floor_mod-r}

small : (t : ℤ) → Within 360000000 (pos (turn t))
small t = let b = turn_below t in record { within = omega arith }

r : (c : After-floor_mod-r) → Num (read c.floor_mod-r.result) (pos (turn c.before.args.t)) 360000000
r c =
    let t = c.before.args.t in
    got c.floor_mod-r.type_inv (c.floor_mod-r.ensures ∙ ap (λ (z : ℤ). floor_mod z 360000000) (back t c.before.ranges.t) ∙ mod_is t) (small t)

pub overflow_sub-result : goal.overflow_sub-result
overflow_sub-result c = sub_fits (r c.before) (lit (pos 360000000)) tt

pub returns-then-r-lt180000000 : goal.returns-then-r-lt180000000
returns-then-r-lt180000000 c =
    let t = c.before.before.args.t in
    let h = less (r c.before) (lit (pos 180000000)) c.if-r-lt180000000.true in
    (r c.before).is ∙ sym (one_turn_first t (omega (zarith, h)))

less_a_turn : (n : ℕ) → n < 360000000 → pos n -ℤ pos 360000000 ≡ negsuc (359999999 - n)
less_a_turn n h = omega (zarith, d_minus (pos n) (pos 360000000))

pub returns-else-r-lt180000000 : goal.returns-else-r-lt180000000
returns-else-r-lt180000000 c =
    let t = c.before.before.args.t in
    let h = not_less (r c.before) (lit (pos 180000000)) c.if-r-lt180000000.false in
    (sub (r c.before) (lit (pos 360000000)) tt).is ∙ less_a_turn (turn t) (turn_below t) ∙ sym (one_turn_second t (omega (zarith, h)))
