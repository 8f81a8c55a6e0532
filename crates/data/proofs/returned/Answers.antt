-- Each return follows from the tests on its way.
use Rattle.device.specs.Data.{returned}
use Rattle.device.proofs.Arms.{arms}
use Rattle.data.proofs.returned.Goals as goal

pub returns-then-state-eq1 : goal.returns-then-state-eq1
unfolding returned
returns-then-state-eq1 c = search (arms, c.stops.ensures)

pub returns-then-agrees : goal.returns-then-agrees
unfolding returned
returns-then-agrees c = search arms

pub returns : goal.returns
unfolding returned
returns c = search (arms, c.stops-2.ensures)
