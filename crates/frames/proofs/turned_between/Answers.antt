-- `turned_between` turns on only a vector that is short enough.
-- What the first turn ensures is the definition's, and a vector turned to HAE is hardly longer than before.
use Rattle.std.proofs.Common.{◌≡◌, true, rules, sym, subst}
use Rattle.vectors.specs.Range.{NoLonger}
use Rattle.vectors.proofs.Turns.{no_longer_than}
use Rattle.frames.specs.Frame.{hae_turned}
use Rattle.frames.specs.Frames.{frame_number}
use Rattle.frames.proofs.Numbers.{frame_known}
use Rattle.frames.proofs.Frames.{hae_turned_long}
use Rattle.frames.proofs.turned_between.Goals as goal
use Rattle.frames.proofs.turned_between.Goals.{After-hae_turned}

on_the_way : (c : After-hae_turned) → c.hae_turned.result ≡ hae_turned true (frame_number c.args.from) c.args.earth c.args.v
on_the_way c = search rules

pub hae_turned-requires-2-clause-no_longer : goal.hae_turned-requires-2-clause-no_longer
hae_turned-requires-2-clause-no_longer c =
    subst (NoLonger 1732052000) (sym (on_the_way (goal.at.hae_turned-requires-2-clause-no_longer c).After-hae_turned))
    (hae_turned_long c.args.earth true (frame_number c.args.from) 1732050808 1732051998000000000 1732052000 c.args.v (frame_known c.args.from) c.requires.from_fits (no_longer_than 1000000000 1732050808 c.args.v c.requires.parts_within tt) tt tt tt)
