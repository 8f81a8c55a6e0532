-- Each return follows from the tests on its way.
use Rattle.device.specs.Reply.{other_byte}
use Rattle.device.proofs.Arms.{arms}
use Rattle.record.specs.Record.{device_of}
use Rattle.engine_reply.proofs.other_byte.Goals as goal

pub returns-then-rec-eq-SENDS_STATUS : goal.returns-then-rec-eq-SENDS_STATUS
unfolding device_of other_byte
returns-then-rec-eq-SENDS_STATUS c = search arms

pub returns-then-rec-eq-SENDS_DEVICE_ID : goal.returns-then-rec-eq-SENDS_DEVICE_ID
unfolding device_of other_byte
returns-then-rec-eq-SENDS_DEVICE_ID c = search arms

pub returns : goal.returns
unfolding device_of other_byte
returns c = search arms
