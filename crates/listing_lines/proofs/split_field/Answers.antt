-- `split_field` gives the bytes before the first space, and those behind it.
-- Where there is no space, all bytes stand before it and none behind.
use mathlib.Core.Path.{sym, ap, ◌∙◌}
use Prim.Native.Nat.{ℕ, ◌+◌}
use native.Mathlib.Omega.{arith}
use lib.ListN.{take, drop, drop_of_length-le}
use lib.Seq.{take_all}
use Rattle.listing_lines.proofs.Fields.{at_space, no_space, to_the_end}
use Rattle.listing_lines.proofs.split_field.Goals as goal

pub returns-in-Some-clause-field : goal.returns-in-Some-clause-field
returns-in-Some-clause-field c =
    let l = c.args.text.now in
    ap (λ (k : ℕ). take k l) (sym (at_space l c.in-Some.end (sym c.in-Some.ensures)))

pub returns-in-Some-clause-rest : goal.returns-in-Some-clause-rest
returns-in-Some-clause-rest c =
    let l = c.args.text.now in
    to_the_end l (c.in-Some.end + 1) ∙ ap (λ (k : ℕ). drop (k + 1) l) (sym (at_space l c.in-Some.end (sym c.in-Some.ensures)))

pub returns-in-None-clause-field : goal.returns-in-None-clause-field
returns-in-None-clause-field c =
    let l = c.args.text.now in
    sym (take_all _ l (no_space l (sym c.in-None.ensures)))

pub returns-in-None-clause-rest : goal.returns-in-None-clause-rest
returns-in-None-clause-rest c =
    let l = c.args.text.now in
    sym (drop_of_length-le l (omega (arith, no_space l (sym c.in-None.ensures))))
