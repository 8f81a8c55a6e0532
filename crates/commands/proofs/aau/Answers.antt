-- Each return follows from the test on its way.
use Rattle.device.specs.Commands.{aau}
use Rattle.device.proofs.Arms.{arms}
use Rattle.record.specs.Record.{device_of}
use Rattle.commands.proofs.aau.Goals as goal

pub returns-then-has : goal.returns-then-has
unfolding aau device_of
returns-then-has c = search (arms, c.placed.ensures)

pub returns : goal.returns
unfolding aau device_of
returns c = search arms
