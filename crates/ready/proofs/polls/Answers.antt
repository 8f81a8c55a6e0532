-- Each return follows from the test on its way.
use Rattle.device.specs.Ready.{polls}
use Rattle.device.proofs.Arms.{arms}
use Rattle.ready.proofs.polls.Goals as goal

pub returns-then-state-eq-ASKING : goal.returns-then-state-eq-ASKING
unfolding polls
returns-then-state-eq-ASKING c = search (arms, c.serving.ensures)

pub returns : goal.returns
unfolding polls
returns c = search arms
