-- Each return follows from the tests on its way.
use Rattle.device.specs.Data.{returned}
use Rattle.device.proofs.Arms.{arms}
use Rattle.record.specs.Record.{device_of}
use Rattle.engine_data.proofs.returned.Goals as goal

pub returns-then-rec-eq1 : goal.returns-then-rec-eq1
unfolding device_of returned
returns-then-rec-eq1 c = search arms

pub returns-then-agrees : goal.returns-then-agrees
unfolding device_of returned
returns-then-agrees c = search arms

pub returns : goal.returns
unfolding device_of returned
returns c = search arms
