-- Each return follows from the tests on its way.
use Rattle.device.specs.Reply.{other_length}
use Rattle.device.proofs.Arms.{arms}
use Rattle.record.specs.Record.{device_of}
use Rattle.engine_reply.proofs.other_length.Goals as goal

pub returns-then-rec-eq-SENDS_DEVICE_ID : goal.returns-then-rec-eq-SENDS_DEVICE_ID
unfolding device_of other_length
returns-then-rec-eq-SENDS_DEVICE_ID c = search arms

pub returns : goal.returns
unfolding device_of other_length
returns c = search arms
