-- `earth_for` works out the Earth's place where one of two frames goes by it, and gives zeros elsewhere.
-- The code's test is the definition's, of the frames' numbers.
use borrow.Author.Rules.{rules}
use mathlib.Core.Bool.{Bool, ◌||◌}
use mathlib.Core.Path.{◌≡◌, sym, ap, ◌∙◌}
use Rattle.frames.specs.Frame.{needs_earth}
use Rattle.frames.specs.Frames.{frame_number}
use Rattle.places.specs.Earth.{earth_if}
use Rattle.places.proofs.earth_for.Goals as goal
use Rattle.places.proofs.earth_for.Goals.{After-needs_earth-2}

from_needs : (c : After-needs_earth-2) → c.needs_earth.result ≡ needs_earth (frame_number c.args.from)
from_needs c = search rules

to_needs : (c : After-needs_earth-2) → c.needs_earth-2.result ≡ needs_earth (frame_number c.args.to)
to_needs c = search rules

needed : (c : After-needs_earth-2) → needs_earth (frame_number c.args.from) || needs_earth (frame_number c.args.to) ≡ c.needs_earth.result || c.needs_earth-2.result
needed c i = sym (from_needs c) i || sym (to_needs c) i

pub returns-then-not-needed : goal.returns-then-not-needed
returns-then-not-needed c =
    sym
    (ap
    (λ (b : Bool). earth_if b c.args.moment.table c.args.moment.minute)
    (needed (goal.at.returns-then-not-needed c).After-needs_earth-2 ∙ c.if-not-needed.true))

pub returns : goal.returns
returns c =
    c.place_at.ensures
    ∙ sym
    (ap
    (λ (b : Bool). earth_if b c.args.moment.table c.args.moment.minute)
    (needed (goal.at.returns c).After-needs_earth-2 ∙ c.if-not-needed.false))
