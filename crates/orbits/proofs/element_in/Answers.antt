-- `element_in` is step 1 for one element: its number in the row and the drift of its rate.
-- The drift's bound keeps the sum within 64 bits.
use mathlib.Core.Path.{◌∙◌}
use Prim.Native.Nat.{◌+◌}
use native.Mathlib.Omega.{arith}
use Rattle.integers.specs.Triple.{at}
use Rattle.integers.proofs.Cast.{read}
use Rattle.integers.proofs.Number.{Num, known, got, w_read, add, add_fits}
use Rattle.dates.specs.Minute.{drift_of}
use Rattle.dates.proofs.Laws.{drift_within}
use Rattle.orbits.proofs.element_in.Goals as goal
use Rattle.orbits.proofs.element_in.Goals.{After-drift, Start}

module _ (s : Start) where
  x0 : Num (read (at s.args.row s.args.k)) (at s.args.row s.args.k) 100000000000000
  x0 = known (s.requires.row_fits.each s.args.k) tt

  rate : Num (read (at s.args.row (s.args.k + 6))) (at s.args.row (s.args.k + 6)) 100000000000000
  rate = known (s.requires.row_fits.each (s.args.k + 6)) tt

  minute : Num (read s.args.minute) s.args.minute 2630000000
  minute = known s.requires.row_fits.minute tt

pub drift-requires : goal.drift-requires
drift-requires c =
    let s = c.before.before in
    record { rate_fits = w_read (rate s).small tt; minute_fits = w_read (minute s).small tt }

drift : (c : After-drift) → Num (read c.drift.result) (drift_of (at c.before.before.before.args.row (c.before.before.before.args.k + 6)) c.before.before.before.args.minute) 5100000000000000
drift c =
    let s = c.before.before.before in
    got c.drift.type_inv (c.drift.ensures ∙ (λ i. drift_of ((rate s).is i) ((minute s).is i))) (drift_within 5100000000000000 (rate s).small (minute s).small (omega arith))

pub overflow_add-row : goal.overflow_add-row
overflow_add-row c = add_fits (x0 c.before.before.before) (drift c) tt

pub returns : goal.returns
returns c = let d = c.before in c.of_hundred_millionths.ensures ∙ (add (x0 d.before.before.before) (drift d) tt).is
