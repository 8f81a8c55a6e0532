-- Each return follows from the test on its way.
use Rattle.device.specs.Ready.{nrd}
use Rattle.device.proofs.Arms.{arms}
use Rattle.ready.proofs.nrd.Goals as goal

pub returns-then-state-gt-ADDRESSED : goal.returns-then-state-gt-ADDRESSED
unfolding nrd
returns-then-state-gt-ADDRESSED c = search (arms, c.noting.ensures)

pub returns : goal.returns
unfolding nrd
returns c = search arms
