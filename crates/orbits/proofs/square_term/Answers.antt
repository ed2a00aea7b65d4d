-- `square_term` is step 1's floor done twice, and 0 where its number is.
-- The first drift is small enough to be drifted again.
use mathlib.Core.Path.{subst, sym, ap, ◌∙◌}
use Prim.Native.Nat.{◌^◌}
use lib.Dec.{ltb→lt}
use lib.IntN.{ℤ}
use Rattle.integers.specs.Range.{Within}
use Rattle.integers.proofs.Cast.{read, same_bits, pos_fits}
use Rattle.integers.proofs.Number.{Num, known, got, w_read, w_more}
use Rattle.dates.specs.Minute.{drift_of}
use Rattle.orbits.specs.Elements.{square_term}
use Rattle.orbits.proofs.Terms.{once_within, square_within, no_square}
use Rattle.orbits.proofs.square_term.Goals as goal
use Rattle.orbits.proofs.square_term.Goals.{After-drift}

pub returns-then-b-eq0 : goal.returns-then-b-eq0
returns-then-b-eq0 c =
    let s = c.before in
    sym (ap (λ (z : ℤ). square_term z s.args.minute) (same_bits s.ranges.b (pos_fits 0 (ltb→lt 0 (2 ^ 63) tt)) c.if-b-eq0.true) ∙ no_square s.args.minute)

pub drift-requires : goal.drift-requires
drift-requires c =
    let s = c.before in
    record { rate_fits = w_read (w_more s.requires.0 tt) tt; minute_fits = w_read s.requires.1 tt }

-- the first drift
once : (c : After-drift) → Num (read c.drift.result) (drift_of c.before.before.args.b c.before.before.args.minute) 260000000000
once c =
    let s = c.before.before in
    got c.drift.type_inv (c.drift.ensures ∙ (λ i. drift_of ((known s.requires.0 tt).is i) ((known s.requires.1 tt).is i))) (once_within s.requires.0 s.requires.1)

pub drift-requires-2 : goal.drift-requires-2
drift-requires-2 c =
    let s = c.before.before in
    record { rate_fits = subst (Within 100000000000000) (sym (once c).is) (w_more (once c).small tt); minute_fits = w_read s.requires.1 tt }

pub returns : goal.returns
unfolding square_term
returns c =
    let d = c.before in
    let s = d.before.before in
    (got c.drift-2.type_inv (c.drift-2.ensures ∙ (λ i. drift_of ((once d).is i) ((known s.requires.1 tt).is i))) (square_within s.requires.0 s.requires.1)).is
