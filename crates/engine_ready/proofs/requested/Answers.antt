-- Each return follows from the tests on its way.
use Rattle.device.specs.Ready.{requested}
use Rattle.device.proofs.Arms.{arms}
use Rattle.record.specs.Record.{device_of}
use Rattle.engine_bytes.proofs.Ways.{able, unable}
use Rattle.engine_ready.proofs.requested.Goals as goal

pub returns-then-rec-ne-ADDRESSED : goal.returns-then-rec-ne-ADDRESSED
unfolding device_of requested
returns-then-rec-ne-ADDRESSED c = search (arms, able, unable)

pub returns-then-rec-ability-eq0 : goal.returns-then-rec-ability-eq0
unfolding device_of requested
returns-then-rec-ability-eq0 c = search (arms, able, unable)

pub returns : goal.returns
unfolding device_of requested
returns c = search (arms, able, unable)
