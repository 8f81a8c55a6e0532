-- Each return follows from the tests on its way.
use Rattle.device.specs.Extended.{aep}
use Rattle.device.proofs.Arms.{arms}
use Rattle.record.specs.Record.{device_of}
use Rattle.engine_extended.proofs.aep.Goals as goal

pub returns-then-rec-ne-HALF_ASSIGNED : goal.returns-then-rec-ne-HALF_ASSIGNED
unfolding device_of aep
returns-then-rec-ne-HALF_ASSIGNED c = search arms

pub returns-then-rec-ge-NO_ADDRESS : goal.returns-then-rec-ge-NO_ADDRESS
unfolding device_of aep
returns-then-rec-ge-NO_ADDRESS c = search arms

pub returns : goal.returns
unfolding device_of aep
returns c = search arms
