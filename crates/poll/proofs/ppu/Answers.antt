-- `unassign` acts, since its test is true at every device.
use Rattle.device.specs.Choose.{choose}
use Rattle.poll.proofs.ppu.Goals as goal

pub returns : goal.returns
unfolding choose
returns c d = c.unassign.ensures d
