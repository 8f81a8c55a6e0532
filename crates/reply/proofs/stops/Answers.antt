-- What goes out is the definition's, from the state that the change leaves.
use Rattle.device.proofs.Arms.{arms}
use Rattle.reply.proofs.stops.Goals as goal

pub returns : goal.returns
returns c = search (arms, c.sends.ensures, c.talking.ensures)
