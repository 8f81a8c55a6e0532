-- Each return follows from the tests on its way.
use Rattle.device.specs.Reply.{continues}
use Rattle.device.proofs.Arms.{arms}
use Rattle.record.specs.Record.{device_of}
use Rattle.reply.proofs.continues.Goals as goal

pub returns-then-state-rec : goal.returns-then-state-rec
unfolding continues device_of
returns-then-state-rec c = search arms

pub returns-then-state-eq-SENDING_DATA : goal.returns-then-state-eq-SENDING_DATA
unfolding continues device_of
returns-then-state-eq-SENDING_DATA c = search (arms, c.stops.ensures)

pub returns-then-state-other_length : goal.returns-then-state-other_length
unfolding continues device_of
returns-then-state-other_length c = search arms

pub returns : goal.returns
unfolding continues device_of
returns c = search (arms, c.stops-2.ensures)
