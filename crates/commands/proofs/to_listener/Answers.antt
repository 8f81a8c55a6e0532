-- Each return follows from the test on its way.
use Rattle.device.specs.Clear.{to_listener}
use Rattle.device.proofs.Arms.{arms}
use Rattle.commands.proofs.to_listener.Goals as goal

pub returns-then-state-eq1 : goal.returns-then-state-eq1
unfolding to_listener
returns-then-state-eq1 c = search (arms, c.reports.ensures)

pub returns : goal.returns
unfolding to_listener
returns c = search (arms, c.sends.ensures)
