-- Each return follows from the test on its way.
use Rattle.device.specs.Data.{heard}
use Rattle.device.proofs.Arms.{arms}
use Rattle.record.specs.Record.{device_of}
use Rattle.engine_data.proofs.heard.Goals as goal

pub returns-then-rec-ne1 : goal.returns-then-rec-ne1
unfolding device_of heard
returns-then-rec-ne1 c = rw (← c.marked_on-out.ensures) (search arms)

pub returns : goal.returns
unfolding device_of heard
returns c = rw (← c.marked_on-out.ensures, ← c.end_bit.ensures) (search arms)
