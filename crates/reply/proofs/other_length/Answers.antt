-- Each return follows from the test on its way.
use Rattle.device.specs.Reply.{other_length}
use Rattle.device.proofs.Arms.{arms}
use Rattle.record.specs.Record.{device_of}
use Rattle.reply.proofs.other_length.Goals as goal

pub returns-then-state-eq-SENDING_DEVICE_ID : goal.returns-then-state-eq-SENDING_DEVICE_ID
unfolding other_length device_of
returns-then-state-eq-SENDING_DEVICE_ID c = search arms

pub returns : goal.returns
unfolding other_length device_of
returns c = search arms
