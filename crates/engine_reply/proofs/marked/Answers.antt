-- The message goes out with C1 set or as it is, by the test of the definition.
use Rattle.device.specs.Reply.{marked}
use Rattle.device.proofs.Arms.{arms}
use Rattle.record.specs.Record.{device_of}
use Rattle.engine_reply.proofs.marked.Goals as goal

pub returns-then-rec-eq-ASKING : goal.returns-then-rec-eq-ASKING
unfolding device_of marked
returns-then-rec-eq-ASKING c = search arms

pub returns : goal.returns
unfolding device_of marked
returns c = search arms
