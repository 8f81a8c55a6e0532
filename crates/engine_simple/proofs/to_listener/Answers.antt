-- Each return follows from the test on its way.
use Rattle.device.specs.Clear.{to_listener}
use Rattle.device.proofs.Arms.{arms}
use Rattle.record.specs.Record.{device_of}
use Rattle.engine_simple.proofs.to_listener.Goals as goal

pub returns-then-rec-ne1 : goal.returns-then-rec-ne1
unfolding device_of to_listener
returns-then-rec-ne1 c = search arms

pub returns : goal.returns
unfolding device_of to_listener
returns c = search arms
