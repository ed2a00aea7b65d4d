-- `sheet` answers, and leaves its bytes, as the definition says.
-- Its two tests are the definition's, and `fill` leaves the rows.
use mathlib.Core.Bool.{true}
use mathlib.Core.Path.{◌≡◌, refl, sym, ◌∙◌}
use native.Mathlib.Omega.{arith}
use Rattle.std.specs.Prelude.{Ok}
use Rattle.integers.proofs.Cast.{read, back, cast_fits}
use Rattle.sheets.specs.Sheet.{is_sheet, sheet_written}
use Rattle.sheets.proofs.Laws.{no_sheet, sheet_short, sheet_by, Taken, taken}
use Rattle.sheets.proofs.sheet.Goals as goal
use Rattle.sheets.proofs.sheet.Goals.{Else-not-is_sheet, Start}

-- the definition, of the numbers that the machine reads back
as_read : (s : Start) → sheet_written s.args.start (read s.args.step) (read s.args.count) (read s.args.body) (read s.args.frame) s.args.bytes.now ≡ sheet_written s.args.start s.args.step s.args.count s.args.body s.args.frame s.args.bytes.now
as_read s = λ i. sheet_written s.args.start (back s.args.step s.ranges.step i) (back s.args.count s.ranges.count i) (back s.args.body s.ranges.body i) (back s.args.frame s.ranges.frame i) s.args.bytes.now

pub returns-then-not-is_sheet : goal.returns-then-not-is_sheet
returns-then-not-is_sheet c =
    sym (no_sheet c.args.start (read c.args.step) (read c.args.body) (read c.args.frame) (read c.args.count) c.args.bytes.now (sym c.is_sheet.ensures ∙ c.if-not-is_sheet.true))
    ∙ as_read (goal.at.returns-then-not-is_sheet c).Start

-- past the first test it is a sheet
is : (c : Else-not-is_sheet) → is_sheet (read c.args.step) (read c.args.count) ≡ true
is c = sym c.is_sheet.ensures ∙ c.if-not-is_sheet.false

within : (c : Else-not-is_sheet) → Taken (read c.args.step) (read c.args.count)
within c = taken _ _ (is c)

pub overflow_cast-n : goal.overflow_cast-n
overflow_cast-n c =
    let t = within (goal.at.overflow_cast-n c).Else-not-is_sheet in
    cast_fits refl t.count_range.low (omega (arith, t.count_small))

pub overflow_mul-n : goal.overflow_mul-n
overflow_mul-n c =
    let t = within (goal.at.overflow_mul-n c).Else-not-is_sheet in
    record { fits = omega (arith, t.count_small) }

pub returns-then-bytes-n : goal.returns-then-bytes-n
returns-then-bytes-n c =
    let first = (goal.at.returns-then-bytes-n c).Else-not-is_sheet in
    sym (sheet_short c.args.start (read c.args.step) (read c.args.body) (read c.args.frame) (read c.args.count) c.args.bytes.now (is first) c.if-bytes-n.true)
    ∙ as_read (goal.at.returns-then-bytes-n c).Start

pub fill-requires : goal.fill-requires
fill-requires c =
    let t = within (goal.at.fill-requires c).Else-not-is_sheet in
    record { count_bound = (t.count_small, c.if-bytes-n.false); within = t.step_small }

pub returns : goal.returns
returns c =
    let first = (goal.at.returns c).Else-not-is_sheet in
    (λ i. (Ok (c.fill.ensures.1 i), c.fill.ensures.0 i))
    ∙ sym (sheet_by c.args.start (read c.args.step) (read c.args.body) (read c.args.frame) (read c.args.count) c.args.bytes.now (is first) c.if-bytes-n.false)
    ∙ as_read (goal.at.returns c).Start
