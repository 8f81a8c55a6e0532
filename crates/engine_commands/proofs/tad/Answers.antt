-- Each return follows from the tests on its way.
use Rattle.device.specs.Commands.{tad}
use Rattle.device.proofs.Arms.{arms}
use Rattle.record.specs.Record.{device_of}
use Rattle.engine_bytes.proofs.Ways.{able, unable}
use Rattle.engine_commands.proofs.tad.Goals as goal

pub returns-then-address-rec : goal.returns-then-address-rec
unfolding device_of tad
returns-then-address-rec c = search (arms, able, unable)

pub returns-then-able-ne0 : goal.returns-then-able-ne0
unfolding device_of tad
returns-then-able-ne0 c = search (arms, able, unable)

pub returns-then-talks : goal.returns-then-talks
unfolding device_of tad
returns-then-talks c = search (arms, able, unable)

pub returns : goal.returns
unfolding device_of tad
returns c = search (arms, able, unable)
