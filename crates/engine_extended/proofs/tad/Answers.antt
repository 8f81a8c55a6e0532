-- Each return follows from the tests on its way.
use Rattle.device.specs.Extended.{extended_tad}
use Rattle.device.proofs.Arms.{arms}
use Rattle.record.specs.Record.{device_of}
use Rattle.engine_bytes.proofs.Ways.{able, unable}
use Rattle.engine_extended.proofs.tad.Goals as goal

pub returns-then-address-rec : goal.returns-then-address-rec
unfolding device_of extended_tad
returns-then-address-rec c = search (arms, able, unable)

pub returns-then-talks : goal.returns-then-talks
unfolding device_of extended_tad
returns-then-talks c = search (arms, able, unable)

pub returns : goal.returns
unfolding device_of extended_tad
returns c = search (arms, able, unable)
