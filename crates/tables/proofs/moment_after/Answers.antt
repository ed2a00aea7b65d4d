-- `moment_after` is the moment of a date and an offset by a table: refusal 1, then 11, then 2.
-- The minute as it is carried is enough (`held_enough`), and tells as well whether there is one; interval and offset are in reach.
use mathlib.Core.Bool.{Bool, false}
use mathlib.Core.Path.{◌≡◌, refl, subst, sym, ap, ◌∙◌}
use Prim.Native.Nat.{ℕ}
use native.Mathlib.Omega.{arith}
use lib.IntN.{ℤ}
use Rattle.integers.specs.Range.{Within}
use Rattle.integers.proofs.Cast.{read, back}
use Rattle.integers.proofs.Number.{known, w_read, w_more}
use Rattle.refusals.specs.declared.Refusal.TheVariants.{NotFinite, NoSuchTable}
use Rattle.dates.specs.declared.Interval.{Interval}
use Rattle.dates.specs.Minute.{minute_of}
use Rattle.dates.specs.Moment.{moment_at}
use Rattle.dates.specs.Reach.{held, Held, InReach}
use Rattle.dates.proofs.Laws.{held_is, held_enough}
use Rattle.tables.specs.Table.{is_table, interval_of, moment_if, moment_after}
use Rattle.tables.proofs.Laws.{first_near, last_near}
use Rattle.tables.proofs.moment_after.Goals as goal
use Rattle.tables.proofs.moment_after.Goals.{After-interval_of, After-is_table, Else-is_table}
use Rattle.std.specs.Prelude.{Err, None, Option, Some}

in_reach : (table : ℤ) {offset : ℤ} → Within 10000000000000 offset → InReach (interval_of table) offset
in_reach table w = record { first_near = w_more (first_near table) tt; last_near = w_more (last_near table) tt; offset_near = w }

-- the code's test is the definition's
test : (c : After-is_table) → is_table c.before.before.args.table ≡ c.is_table.result
test c = let s = c.before.before in sym (c.is_table.ensures ∙ ap is_table (back s.args.table s.ranges.table))

interval_is : (c : After-interval_of) → c.interval_of.result ≡ interval_of c.before.before.before.before.args.table
interval_is c = let s = c.before.before.before.before in c.interval_of.ensures ∙ ap interval_of (back s.args.table s.ranges.table)

pub moment_at-requires : goal.moment_at-requires
moment_at-requires c =
    let m = c.before.before.before in
    let s = m.before in record { in_reach = subst (λ (i : Interval). InReach i (read s.args.offset)) (sym (interval_is c)) (in_reach s.args.table (w_read s.requires tt)); held = subst Held (sym m.minute_of-minute.ensures) (held_is (minute_of s.args.date)) }

pub returns-then-is_table : goal.returns-then-is_table
unfolding moment_after
returns-then-is_table c =
    let i = c.before in
    let t = i.before.before in
    let m = t.before in
    let s = m.before in
    c.moment_at.ensures
    ∙ (λ j. moment_at (interval_is i j) (m.minute_of-minute.ensures j) ((known s.requires tt).is j))
    ∙ held_enough (interval_of s.args.table) (minute_of s.args.date) s.args.offset (in_reach s.args.table s.requires)
    ∙ sym (ap (λ (b : Bool). moment_if b (interval_of s.args.table) (minute_of s.args.date) s.args.offset) (test t ∙ i.before.if-is_table.true))

-- no table: the refusal goes by whether there is a minute
none : (minute : Option ℤ) (interval : Interval) (offset : ℤ) → held minute ≡ None → Err NotFinite ≡ moment_if false interval minute offset
none None interval offset e = refl
none (Some m) interval offset e = let z : ◌≡◌ {A = ℕ} 0 1 = cc in absurd (omega arith)

some : (minute : Option ℤ) (interval : Interval) (offset m : ℤ) → held minute ≡ Some m → Err NoSuchTable ≡ moment_if false interval minute offset
some None interval offset m e = let z : ◌≡◌ {A = ℕ} 0 1 = cc in absurd (omega arith)
some (Some n) interval offset m e = refl

module _ (e : Else-is_table) where
  by_none : moment_if false (interval_of e.args.table) (minute_of e.args.date) e.args.offset ≡ moment_after e.args.date e.args.table e.args.offset
  unfolding moment_after
  by_none =
      let t = e.before in
      sym (ap (λ (b : Bool). moment_if b (interval_of e.args.table) (minute_of e.args.date) e.args.offset) (test t ∙ e.if-is_table.false))

pub returns-in-None : goal.returns-in-None
returns-in-None c =
    none (minute_of c.args.date) (interval_of c.args.table) c.args.offset (sym c.minute_of-minute.ensures ∙ c.in-None.is)
    ∙ by_none (goal.at.returns-in-None c).Else-is_table

pub returns-in-Some : goal.returns-in-Some
returns-in-Some c =
    some (minute_of c.args.date) (interval_of c.args.table) c.args.offset _ (sym c.minute_of-minute.ensures ∙ c.in-Some.is)
    ∙ by_none (goal.at.returns-in-Some c).Else-is_table
