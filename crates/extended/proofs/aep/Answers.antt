-- Each return follows from the tests on its way.
use Rattle.device.specs.Extended.{aep}
use Rattle.device.proofs.Arms.{arms}
use Rattle.record.specs.Record.{device_of}
use Rattle.extended.proofs.aep.Goals as goal

pub returns-then-rec-lt-NO_ADDRESS : goal.returns-then-rec-lt-NO_ADDRESS
unfolding aep device_of
returns-then-rec-lt-NO_ADDRESS c = search (arms, c.placed.ensures)

pub returns-then-state-eq-HALF_ASSIGNED : goal.returns-then-state-eq-HALF_ASSIGNED
unfolding aep device_of
returns-then-state-eq-HALF_ASSIGNED c = search arms

pub returns : goal.returns
unfolding aep device_of
returns c = search arms
