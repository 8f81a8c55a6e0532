-- Each return follows from the tests on its way.
use Rattle.device.specs.Poll.{ppd}
use Rattle.device.proofs.Arms.{arms}
use Rattle.record.specs.Record.{device_of}
use Rattle.engine_poll.proofs.ppd.Goals as goal

pub returns-then-rec-ne1 : goal.returns-then-rec-ne1
unfolding device_of ppd
returns-then-rec-ne1 c = search arms

pub returns : goal.returns
unfolding device_of ppd
returns c = search arms
