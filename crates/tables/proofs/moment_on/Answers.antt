-- `moment_on` is `moment_after` with its table, where its minute lies in the table's interval.
-- By the two cases of `moment_after`.
use mathlib.Core.Path.{◌≡◌, sym, ap, ◌∙◌}
use Rattle.std.specs.Prelude.{Ok}
use Rattle.integers.proofs.Cast.{back}
use Rattle.integers.proofs.Number.{known}
use Rattle.refusals.proofs.Handed.{handed_on}
use Rattle.tables.specs.Table.{OnTable, moment_after}
use Rattle.tables.proofs.Laws.{after_inside, covered_read, on_table_read}
use Rattle.tables.proofs.moment_on.Goals as goal
use Rattle.tables.proofs.moment_on.Goals.{In_ok-minute}

module _ (c : In_ok-minute) where
  told : moment_after c.args.date c.args.table c.args.offset ≡ Ok c.in_ok-minute.minute
  told = sym (c.in_ok-minute.ensures ∙ (λ i. moment_after c.args.date (back c.args.table c.ranges.table i) ((known c.requires tt).is i)))

  inside : OnTable c.args.table c.in_ok-minute.minute
  inside = after_inside c.args.date c.args.table c.args.offset c.in_ok-minute.minute told

pub invariant_of-result : goal.invariant_of-result
invariant_of-result c = record { on_table = on_table_read c.ranges.table (inside c) }

pub returns : goal.returns
returns c =
    let t = (goal.at.returns c).In_ok-minute in
    (back c.args.table c.ranges.table, told t ∙ ap Ok (sym (covered_read (inside t))))

pub returns-in_err-minute : goal.returns-in_err-minute
returns-in_err-minute c =
    rw (handed_on c.from_residual.ensures.1)
    (sym (c.in_err-minute.ensures ∙ (λ i. moment_after c.args.date (back c.args.table c.ranges.table i) ((known c.requires tt).is i))))
