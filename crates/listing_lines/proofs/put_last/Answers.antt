-- `put_last` leaves the printed line of what is held, nothing where nothing is held.
-- What is held is empty exactly where it has no byte.
use Rattle.std.proofs.Common.{◌≡◌, ℕ, List, arith, length, sym, subst}
use borrow.Author.Tests.{eqb-true}
use Rattle.listing_lines.specs.Put.{Put}
use Rattle.listing_lines.proofs.Puts.{put_none}
use Rattle.listing_lines.proofs.Stream.{last_none}
use Rattle.listing_lines.proofs.put_last.Goals as goal

pub returns-then-is_empty : goal.returns-then-is_empty
returns-then-is_empty c =
    let none : length c.args.line.now ≡ 0 = eqb-true _ _ (sym c.if-is_empty.ensures) in (
      subst (λ (t : List ℕ). Put c.args.at t c.args.bytes.now c.args.bytes.now c.args.at)
          (sym (last_none c.args.line.now none))
          (put_none c.args.bytes.now c.args.at (omega (arith, c.requires))),
      omega arith,
    )
