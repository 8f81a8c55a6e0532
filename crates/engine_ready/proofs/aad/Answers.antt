-- Each return follows from the tests on its way.
use Rattle.device.specs.Ready.{aad}
use Rattle.device.proofs.Arms.{arms}
use Rattle.record.specs.Record.{device_of}
use Rattle.engine_bytes.proofs.Ways.{able, unable}
use Rattle.engine_ready.proofs.aad.Goals as goal

pub returns-then-rec-ne0 : goal.returns-then-rec-ne0
unfolding device_of aad
returns-then-rec-ne0 c = search (arms, able, unable)

pub returns-then-rec-eq0 : goal.returns-then-rec-eq0
unfolding device_of aad
returns-then-rec-eq0 c = search (arms, able, unable)

pub returns : goal.returns
unfolding device_of aad
returns c = search (arms, able, unable)
