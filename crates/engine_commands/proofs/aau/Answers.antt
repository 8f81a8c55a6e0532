-- Each return follows from the tests on its way.
use Rattle.device.specs.Commands.{aau}
use Rattle.device.proofs.Arms.{arms}
use Rattle.record.specs.Record.{device_of}
use Rattle.engine_bytes.proofs.Ways.{able, unable}
use Rattle.engine_commands.proofs.aau.Goals as goal

pub returns-then-rec-eq0 : goal.returns-then-rec-eq0
unfolding device_of aau
returns-then-rec-eq0 c = search (arms, able, unable)

pub returns : goal.returns
unfolding device_of aau
returns c = search (arms, able, unable)
