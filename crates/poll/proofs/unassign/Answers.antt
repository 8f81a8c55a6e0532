-- By its one test.
use mathlib.Core.Path.{refl}
use Rattle.device.proofs.Arms.{when, unless}
use Rattle.poll.proofs.unassign.Goals as goal

pub returns-then-here : goal.returns-then-here
returns-then-here c d = when _ _ refl c.if-here.true (c.assigning.ensures d)

pub returns : goal.returns
returns c d = unless _ _ refl c.if-here.false refl
