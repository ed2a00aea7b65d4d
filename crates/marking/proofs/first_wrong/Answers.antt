-- `first_wrong` finds the number of the first wrong row, if there is one.
-- `find` gives a row that is wrong with none before it wrong, or none at all; the definition counts the same row from 1 (integers, First).
use borrow.Author.Rules.{rules}
use borrow.Author.Tests.{tests}
use mathlib.Core.Bool.{Bool, true, false}
use mathlib.Core.Path.{◌≡◌, sym, ◌∙◌, ap}
use mathlib.Core.List.{List}
use Prim.Native.Nat.{ℕ, ◌+◌, ◌<◌, ◌≤◌, ◌-◌, ◌*◌}
use native.Mathlib.Omega.{arith}
use native.Mathlib.Numerals.{add-one}
use lib.ListN.{take, drop, length, length-drop}
use lib.Seq.{take_all}
use Rattle.std.specs.Prelude.{Option, Some, None}
use Rattle.std.specs.Option.{MatchOption}
use Rattle.std.proofs.lemmas.Iterator.{first_from_Range}
use Rattle.integers.specs.First.{first_picked}
use Rattle.integers.proofs.First.{is_first, is_none}
use Rattle.rows.specs.Fields.{row_size}
use Rattle.rows.specs.Answer.{read_of}
use Rattle.marking.specs.Wrong.{is_wrong, is_wrong_at}
use Rattle.marking.proofs.first_wrong.Goals as goal

-- the place that the definition gives, of what a search of the first n numbers finds
module _ (picks : ℕ → Bool) (n : ℕ) where
  found : (r : Option ℕ) → MatchOption r ((k : ℕ) → 0 ≤ k → k < n → picks k ≡ false) (λ i. (0 ≤ i) × (i < n) × (picks i ≡ true) × ((k : ℕ) → 0 ≤ k → k < i → picks k ≡ false))
      → MatchOption r (first_picked picks n ≡ 0) (λ k. first_picked picks n ≡ k + 1)
  found None h = is_none picks n (λ k l. h k (omega arith) l)
  found (Some i) h = is_first picks n i (record { picked = h.2; none_before = λ k l. h.3 k (omega arith) l }) h.1 ∙ sym (add-one i)

-- the part of the bytes that is lent is that from row k on
told : (allowed : ℕ) (bytes : List ℕ) (k : ℕ) (r : Bool) → r ≡ is_wrong allowed (read_of (take (length bytes - row_size * k) (drop (row_size * k) bytes))) → is_wrong_at allowed bytes k ≡ r
told allowed bytes k r e =
    let from = row_size * k in
    sym (e ∙ ap (λ (b : List ℕ). is_wrong allowed (read_of b)) (take_all (length bytes - from) (drop from bytes) (rw length-drop (omega arith))))

pub returns : goal.returns
returns c =
    let wrong = is_wrong_at c.args.allowed c.args.bytes.now in
    found wrong c.args.count c.find.result
    (first_from_Range _ _ _ _ (λ k. wrong k ≡ true) (λ k. wrong k ≡ false) c.find.ensures.ran
    (λ k q called. search (rules, tests, told c.args.allowed c.args.bytes.now)) (λ k q called. search (rules, tests, told c.args.allowed c.args.bytes.now)))
