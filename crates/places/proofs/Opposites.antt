-- A vector and its opposite have opposite answers, or the same refusal, for every two frames, every date and every table (02, Item 4).
-- The refusals of a date and a frame look at no vector, that of the limits at its parts' sizes alone, and a turn goes by `between_opposite`.
use mathlib.Core.Path.{◌≡◌, refl, ◌∙◌}
use mathlib.Core.Bool.{Bool, true, false, ◌&&◌}
use mathlib.Core.List.{List}
use lib.IntN.{ℤ, pos}
use Rattle.dates.specs.declared.Date.{Date}
use Rattle.tables.specs.Table.{moment_after}
use Rattle.vectors.specs.Vector.{opposite_of}
use Rattle.frames.specs.Frame.{is_frame}
use Rattle.frames.specs.Answer.{in_limits, as_coordinates, opposite_turned}
use Rattle.frames.proofs.Opposites.{between_opposite, limits_opposite}
use Rattle.places.specs.Answer.{earth_at, turn_if, turn_on, turn_answer}
use Rattle.std.specs.Prelude.{Err, Ok, Result}
use Rattle.refusals.specs.declared.Refusal.{Refusal}

if_opposite : (areFrames isNear : Bool) (table f g : ℤ) (v : List ℤ) (m : ℤ) → turn_if areFrames isNear table f g (opposite_of v) m ≡ opposite_turned (turn_if areFrames isNear table f g v m)
if_opposite false n table f g v m = refl
if_opposite true false table f g v m = refl
if_opposite true true table f g v m = λ i. Ok (as_coordinates (between_opposite f g (earth_at table m) v i))

on_opposite : (moment : Result ℤ Refusal) (table f g : ℤ) (v : List ℤ) → turn_on moment table f g (opposite_of v) ≡ opposite_turned (turn_on moment table f g v)
on_opposite (Ok m) table f g v =
    (λ i. turn_if (is_frame f && is_frame g) (limits_opposite v i) table f g (opposite_of v) m) ∙ if_opposite (is_frame f && is_frame g) (in_limits v) table f g v m
on_opposite (Err r) table f g v = refl

pub turn_opposite : (date : Date) (table f g : ℤ) (v : List ℤ) → turn_answer date table f g (opposite_of v) ≡ opposite_turned (turn_answer date table f g v)
turn_opposite date table f g v = on_opposite (moment_after date table (pos 0)) table f g v
