-- Each return follows from the tests on its way.
use Rattle.device.specs.Data.{data_or_end}
use Rattle.device.proofs.Arms.{arms}
use Rattle.record.specs.Record.{device_of}
use Rattle.engine_data.proofs.data_or_end.Goals as goal

pub returns-then-rec-le-ADDRESSED : goal.returns-then-rec-le-ADDRESSED
unfolding device_of data_or_end
returns-then-rec-le-ADDRESSED c = search arms

pub returns : goal.returns
unfolding device_of data_or_end
returns c = search arms
