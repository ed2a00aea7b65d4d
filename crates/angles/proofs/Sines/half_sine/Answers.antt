-- `half_sine` is the sine within a half turn: that of the angle folded to the first quarter.
-- By the definition, whose fold is `folded`'s.
use mathlib.Core.Path.{ap, ◌∙◌}
use Rattle.angles.specs.Sine.{quarter_sine, half_sine}
use Rattle.angles.proofs.Sines.half_sine.Goals as goal

pub returns : goal.returns
unfolding half_sine
returns c = c.quarter_sine.ensures ∙ ap quarter_sine c.before.folded.ensures
