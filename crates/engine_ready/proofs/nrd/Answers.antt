-- Each return follows from the tests on its way.
use Rattle.device.specs.Ready.{nrd}
use Rattle.device.proofs.Arms.{arms}
use Rattle.record.specs.Record.{device_of}
use Rattle.engine_ready.proofs.nrd.Goals as goal

pub returns-then-rec-le-ADDRESSED : goal.returns-then-rec-le-ADDRESSED
unfolding device_of nrd
returns-then-rec-le-ADDRESSED c = search arms

pub returns : goal.returns
unfolding device_of nrd
returns c = search arms
