-- `fill` leaves the rows of a sheet, and answers how many of them have status 0.
-- After k rounds the buffer begins with the definition's k first rows; a round adds one more row (integers, Blocks).
use mathlib.Core.List.{◌++◌}
use mathlib.Core.Path.{◌≡◌}
use Prim.Native.Nat.{◌*◌, ◌≤◌}
use lib.ListN.{length, drop}
use Rattle.rows.specs.Fields.{row_size}
use Rattle.sheets.specs.Sheet.{rows_of, good_of}
use Rattle.sheets.proofs.fill.Given as goal

abbrev pub invariant-loop-k : goal.invariant-loop-k
invariant-loop-k l = record {
  rows_are : l.bytes ≡ rows_of l.start l.step l.body l.frame l.k ++ drop (row_size * l.k) l.initial.bytes;
  same_length : length l.bytes ≡ length l.initial.bytes;
  good_is : l.good ≡ good_of l.start l.step l.body l.frame l.k;
  good_most : l.good ≤ l.k;
}
