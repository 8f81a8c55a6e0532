-- Each return follows from the tests on its way.
use Rattle.device.specs.Reply.{other_byte}
use Rattle.device.proofs.Arms.{arms}
use Rattle.record.specs.Record.{device_of}
use Rattle.reply.proofs.other_byte.Goals as goal

pub returns-then-state-eq-SENDING_STATUS : goal.returns-then-state-eq-SENDING_STATUS
unfolding other_byte device_of
returns-then-state-eq-SENDING_STATUS c = search arms

pub returns-then-state-eq-SENDING_DEVICE_ID : goal.returns-then-state-eq-SENDING_DEVICE_ID
unfolding other_byte device_of
returns-then-state-eq-SENDING_DEVICE_ID c = search arms

pub returns : goal.returns
unfolding other_byte device_of
returns c = search arms
