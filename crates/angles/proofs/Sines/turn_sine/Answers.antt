-- `turn_sine` is the sine of an angle within a half turn either way: the sine of its size, with its sign.
-- By what the three calls ensure; the argument is read back at each.
use mathlib.Core.Path.{◌≡◌, subst, sym, ap, ◌∙◌}
use Prim.Native.Nat.{ℕ, ◌≤◌}
use native.Mathlib.Omega.{arith}
use lib.IntN.{pos, nat_abs}
use Rattle.integers.proofs.Cast.{read, back, back_ok}
use lib.Signed.{lt_z}
use Rattle.integers.specs.Sign.{signed}
use Rattle.angles.specs.Sine.{half_sine}
use Rattle.angles.proofs.Steps.{half_top}
use Rattle.angles.proofs.Laws.{by_sign}
use Rattle.angles.proofs.Sines.turn_sine.Goals as goal
use Rattle.angles.proofs.Sines.turn_sine.Goals.{After-half_sine, After-size, Start}

-- the argument as the machine reads it back
t_is : (c : Start) → read c.args.t ≡ c.args.t
t_is c = back c.args.t c.ranges.t

sized : (c : After-size) → c.size.result ≡ nat_abs c.before.args.t
sized c = c.size.ensures ∙ ap nat_abs (t_is c.before)

pub half_sine-requires : goal.half_sine-requires
half_sine-requires c = subst (λ (n : ℕ). n ≤ 180000000) (sym (sized c)) c.before.requires.within

halved : (c : After-half_sine) → c.half_sine.result ≡ half_sine (nat_abs c.before.before.args.t)
halved c = c.half_sine.ensures ∙ ap half_sine (sized c.before)

pub with_sign-requires : goal.with_sign-requires
with_sign-requires c =
    let h = subst (λ (n : ℕ). n ≤ 1000000000) (sym (halved c)) (half_top (nat_abs c.before.before.args.t)) in
    omega arith

pub returns : goal.returns
returns c =
    let s = c.before.before.before in
    back_ok c.with_sign.result c.with_sign.type_inv ∙ c.with_sign.ensures
    ∙ (λ i. signed (lt_z (t_is s i) (pos 0)) (halved c.before i)) ∙ by_sign s.args.t (half_sine (nat_abs s.args.t))
