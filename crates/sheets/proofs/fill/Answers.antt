-- `fill` leaves the rows of a sheet, and answers how many of them have status 0.
-- After k rounds the buffer begins with the definition's k first rows; a round adds one more row (integers, Blocks).
use borrow.Rule.Slice.PartMut.{mid_of, put_mid}
use borrow.Author.Rules.{rules}
use mathlib.Core.List.{List, ◌++◌}
use mathlib.Core.Path.{◌≡◌, refl, sym, ap, subst⁻¹, ◌∙◌}
use Prim.Native.Nat.{ℕ, ◌+◌, ◌-◌, ◌*◌}
use native.Mathlib.Omega.{arith}
use lib.IntN.{ℤ, pos, ◌*ℤ◌}
use lib.ListN.{length, drop}
use mir.Syntax.{w64}
use mir.Val.{to_z}
use Rattle.std.specs.Prelude.{⊤, Result}
use Rattle.integers.specs.Range.{Within}
use Rattle.integers.specs.Buffer as buffer
use Rattle.integers.proofs.Blocks.{round}
use Rattle.integers.proofs.Cast.{read, back}
use Rattle.integers.proofs.Number.{Num, mul, mul_fits, of_unsigned, w_read, w_more}
use Rattle.refusals.specs.declared.Refusal.{Refusal}
use Rattle.places.specs.Answer.{place_after}
use Rattle.rows.specs.declared.Row.{Row}
use Rattle.rows.specs.Fields.{row_size, row_table, good_row, row_bytes}
use Rattle.sheets.specs.Row.{bytes_for}
use Rattle.sheets.specs.Sheet.{one_if, answer_at, rows_of, good_of}
use Rattle.sheets.proofs.Laws.{bytes_long, good_more}
use Rattle.sheets.proofs.fill.Goals as goal
use Rattle.sheets.proofs.fill.Goals.{In-Ok, In-loop-k}
use Rattle.frames.specs.declared.Coordinates.{Coordinates}

pub loop-k-init : goal.loop-k-init
unfolding buffer.blocks good_of
loop-k-init c = record { rows_are = refl; same_length = refl; good_is = refl; good_most = omega arith }

-- the step, of at most 1,000,000, and the number of the row
steps : (c : In-loop-k) → Num (read c.args.step) (read c.args.step) 1000000
steps c = record { is = refl; small = w_read c.requires.within tt }

index : (c : In-loop-k) → Num (to_z w64 c.loop-k.k) (pos c.loop-k.k) 400
index c = of_unsigned (omega arith) tt

pub overflow_mul-step : goal.overflow_mul-step
overflow_mul-step c = let k = (goal.at.overflow_mul-step c).In-loop-k in mul_fits (steps k) (index k) tt

-- the offset of row k
offset : (c : In-loop-k) → Num (read (read c.args.step *ℤ to_z w64 c.loop-k.k)) (read c.args.step *ℤ pos c.loop-k.k) 400000000
offset c = mul (steps c) (index c) tt

pub place_after-answer-requires : goal.place_after-answer-requires
place_after-answer-requires c =
    let o = offset (goal.at.place_after-answer-requires c).In-loop-k in
    w_more (subst⁻¹ (Within 400000000) o.is o.small) tt

module _ (c : In-loop-k) where
  abbrev old : List ℕ
  old = mid_of (row_size * c.loop-k.k) (length c.loop-k.bytes - row_size * c.loop-k.k) c.loop-k.bytes

  -- the answer of row k
  answer_is : {x : Result (ℤ × Coordinates) Refusal} → x ≡ place_after c.args.start row_table (read (read c.args.step *ℤ to_z w64 c.loop-k.k)) (read c.args.body) (read c.args.frame)
      → x ≡ answer_at c.args.start (read c.args.step) (read c.args.body) (read c.args.frame) c.loop-k.k
  answer_is e = e ∙ ap (λ (o : ℤ). place_after c.args.start row_table o (read c.args.body) (read c.args.frame)) (offset c).is

  -- a round that puts the row of its answer into the bytes from row k on leaves one row more
  after : (ys : List ℕ) {x : Result (ℤ × Coordinates) Refusal}
      → x ≡ answer_at c.args.start (read c.args.step) (read c.args.body) (read c.args.frame) c.loop-k.k
      → ys ≡ bytes_for (read c.args.body) (read c.args.frame) x ++ drop row_size old
      → (let k = c.loop-k.k in
      let put = put_mid (row_size * k) (length c.loop-k.bytes - row_size * k) c.loop-k.bytes ys in
      (put ≡ rows_of c.args.start (read c.args.step) (read c.args.body) (read c.args.frame) (k + 1) ++ drop (row_size * (k + 1)) c.args.bytes.now)
      × (length put ≡ length c.args.bytes.now))
  after ys is row =
      let v = c.loop-k.invariant in
      let body = read c.args.body in
      let frame = read c.args.frame in
      let answers = answer_at c.args.start (read c.args.step) body frame in
      let put = round row_size (λ (k : ℕ). bytes_for body frame (answers k)) (λ k. bytes_long body frame (answers k)) c.loop-k.k c.args.bytes.now c.loop-k.bytes ys (omega arith) v.same_length v.rows_are
      (row ∙ ap (λ (y : Result (ℤ × Coordinates) Refusal). bytes_for body frame y ++ drop row_size old) is) in
      (put.0, put.1)

pub loop-k-preserved-in_default : goal.loop-k-preserved-in_default
loop-k-preserved-in_default c =
    let n = (goal.at.loop-k-preserved-in_default c).In-loop-k in
    let v = c.loop-k.invariant in
    let is = answer_is n c.place_after-answer.ensures in
    let more = after n c.put_answer.new.bytes is (ap (λ (w : Result ⊤ Refusal × List ℕ). w.1) c.put_answer.ensures) in
    let none = ap one_if (sym is ∙ c.in_default.is) in
    record {
      rows_are = more.0;
      same_length = more.1;
      good_is = omega (arith, none, v.good_is, good_more c.args.start (read c.args.step) (read c.args.body) (read c.args.frame) c.loop-k.k);
      good_most = omega (arith, v.good_most);
    }

-- the row of a place that was found, of the numbers that the machine reads back
row_is : (c : In-Ok) → (let p = c.in-Ok.p in good_row (read c.args.body) (read c.args.frame) (read c.in-Ok.minute) (read p.x) (read p.y) (read p.z) ≡ good_row (read c.args.body) (read c.args.frame) c.in-Ok.minute p.x p.y p.z)
row_is c = search rules

pub loop-k-preserved : goal.loop-k-preserved
loop-k-preserved c =
    let n = (goal.at.loop-k-preserved c).In-loop-k in
    let v = c.loop-k.invariant in
    let is = sym c.in-Ok.is ∙ answer_is n c.place_after-answer.ensures in
    let more = after n c.put_good.new.bytes is (c.put_good.ensures ∙ ap (λ (r : Row). row_bytes r ++ drop row_size (old n)) (row_is (goal.at.loop-k-preserved c).In-Ok)) in
    let one = ap one_if (sym is) in
    record {
      rows_are = more.0;
      same_length = more.1;
      good_is = omega (arith, one, v.good_is, good_more c.args.start (read c.args.step) (read c.args.body) (read c.args.frame) c.loop-k.k);
      good_most = omega (arith, v.good_most);
    }

pub returns : goal.returns
returns c =
    let v = c.loop-k.invariant in
    let e : c.loop-k.k ≡ c.args.count = omega arith in (
      v.rows_are ∙ (λ i. rows_of c.args.start (back c.args.step c.ranges.step i) (back c.args.body c.ranges.body i) (back c.args.frame c.ranges.frame i) (e i) ++ drop (row_size * e i) c.args.bytes.now),
      v.good_is ∙ (λ i. good_of c.args.start (back c.args.step c.ranges.step i) (back c.args.body c.ranges.body i) (back c.args.frame c.ranges.frame i) (e i)),
    )
