-- `rtn_turned` turns by the rows R, T, N only a vector whose sums of products fit 64 bits.
-- Both are within the limits, and where there are rows, r and S×R are long enough that the turn hardly stretches.
use Rattle.std.proofs.Common.{◌≡◌, ◌≤◌, List, ℤ, Ok, Err, if◌then◌else◌, rules, tests, sym, subst, ap, ◌∙◌}
use Rattle.refusals.specs.declared.Refusal.TheVariants.{NoDirection}
use Rattle.integers.specs.Triple.{PartsWithin}
use Rattle.integers.proofs.Triples.{parts_more}
use Rattle.vectors.specs.Vector.{way_of, length_of}
use Rattle.vectors.specs.Range.{TurnFits}
use Rattle.frames.specs.Frame.{axis_cross}
use Rattle.frames.specs.Rtn.{rtn_rows, has_direction}
use Rattle.frames.proofs.Choice.{limits_parts}
use Rattle.frames.proofs.Frames.{rtn_turn_fits}
use Rattle.frames.proofs.rtn_turned.Goals as goal
use Rattle.frames.proofs.rtn_turned.Goals.{After-way}

record Direction (r : List ℤ) (m : List (List ℤ)) : Type 0 where
  long : 100000 ≤ length_of r
  across : 1000000 ≤ length_of (axis_cross r)
  rows : rtn_rows r ≡ m

direction : (r : List ℤ) (m : List (List ℤ)) → Ok m ≡ if has_direction r then Ok (rtn_rows r) else Err NoDirection → Direction r m
direction r m e = record { long = search (rules, tests); across = search (rules, tests); rows = search (rules, tests) }

v_parts : (c : After-way) → PartsWithin 500000000 c.args.v
v_parts c = limits_parts c.args.v (search rules) (search rules)

r_parts : (c : After-way) → PartsWithin 1000000000 c.args.r
r_parts c = parts_more (limits_parts c.args.r (search rules) (search rules)) tt

pub applied-requires : goal.applied-requires
applied-requires c =
    let d = direction c.args.r c.in_ok-rows.rows c.in_ok-rows.ensures in
    let e = c.way.ensures ∙ ap (way_of c.args.back) (sym d.rows) in
    subst (λ (m : List (List ℤ)). TurnFits m c.args.v) (sym e) (rtn_turn_fits c.args.back c.args.r c.args.v (r_parts c) d.long d.across (v_parts c))
