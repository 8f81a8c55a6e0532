-- Each return follows from the tests on its way.
use Rattle.device.specs.Extended.{sad_talks}
use Rattle.device.proofs.Arms.{arms}
use Rattle.record.specs.Record.{device_of}
use Rattle.extended.proofs.sad_talks.Goals as goal

pub returns-then-has : goal.returns-then-has
unfolding sad_talks device_of
returns-then-has c = search (arms, c.roles.ensures)

pub returns-then-talks : goal.returns-then-talks
unfolding sad_talks device_of
returns-then-talks c = search (arms, c.talking.ensures)

pub returns-then-rec-ge-RECEIVED : goal.returns-then-rec-ge-RECEIVED
unfolding sad_talks device_of
returns-then-rec-ge-RECEIVED c = search arms

pub returns : goal.returns
unfolding sad_talks device_of
returns c = search arms
