-- Each return follows from the tests on its way.
use Rattle.device.specs.Ready.{requested}
use Rattle.device.proofs.Arms.{arms}
use Rattle.ready.proofs.requested.Goals as goal

pub returns-then-has : goal.returns-then-has
unfolding requested
returns-then-has c = search (arms, c.talking.ensures)

pub returns-then-state-eq-ADDRESSED : goal.returns-then-state-eq-ADDRESSED
unfolding requested
returns-then-state-eq-ADDRESSED c = search (arms, c.sends.ensures)

pub returns : goal.returns
unfolding requested
returns c = search (arms, c.sends-2.ensures)
