-- Each return follows from the tests on its way.
use Rattle.device.specs.Reply.{continues}
use Rattle.device.proofs.Arms.{arms}
use Rattle.record.specs.Record.{device_of}
use Rattle.engine_reply.proofs.continues.Goals as goal

pub returns-then-rec : goal.returns-then-rec
unfolding device_of continues
returns-then-rec c = search arms

pub returns-then-rec-eq-SENDS_DATA : goal.returns-then-rec-eq-SENDS_DATA
unfolding device_of continues
returns-then-rec-eq-SENDS_DATA c = search arms

pub returns-then-rec-other_length : goal.returns-then-rec-other_length
unfolding device_of continues
returns-then-rec-other_length c = search arms

pub returns : goal.returns
unfolding device_of continues
returns c = search arms
