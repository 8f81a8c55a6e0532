-- The last frame is read as the one come back was.
use Rattle.record.specs.Record.{device_of}
use Rattle.engine_data.proofs.agrees.Goals as goal

pub returns : goal.returns
unfolding device_of
returns c = rw c.read-last.ensures
