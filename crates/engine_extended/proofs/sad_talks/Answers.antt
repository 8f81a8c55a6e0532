-- Each return follows from the tests on its way.
use Rattle.device.specs.Extended.{sad_talks}
use Rattle.device.proofs.Arms.{arms}
use Rattle.record.specs.Record.{device_of}
use Rattle.engine_bytes.proofs.Ways.{able, unable}
use Rattle.engine_extended.proofs.sad_talks.Goals as goal

pub returns-then-rec-lt-RECEIVED : goal.returns-then-rec-lt-RECEIVED
unfolding device_of sad_talks
returns-then-rec-lt-RECEIVED c = search (arms, able, unable)

pub returns-then-able-ne0 : goal.returns-then-able-ne0
unfolding device_of sad_talks
returns-then-able-ne0 c = search (arms, able, unable)

pub returns-else-able-ne0 : goal.returns-else-able-ne0
unfolding device_of sad_talks
returns-else-able-ne0 c = search (arms, able, unable)

pub returns-else-talks : goal.returns-else-talks
unfolding device_of sad_talks
returns-else-talks c = search (arms, able, unable)
