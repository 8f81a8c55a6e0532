-- Each return follows from the tests on its way.
use Rattle.device.specs.Ready.{polls}
use Rattle.device.proofs.Arms.{arms}
use Rattle.record.specs.Record.{device_of}
use Rattle.engine_ready.proofs.polls.Goals as goal

pub returns-then-rec-ne-ASKING : goal.returns-then-rec-ne-ASKING
unfolding device_of polls
returns-then-rec-ne-ASKING c = search arms

pub returns : goal.returns
unfolding device_of polls
returns c = search arms
