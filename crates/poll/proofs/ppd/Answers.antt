-- `unassign` is asked by the test of the definition.
use Rattle.device.specs.Poll.{ppd}
use Rattle.poll.proofs.ppd.Goals as goal

pub returns : goal.returns
unfolding ppd
returns c d = c.unassign.ensures d
