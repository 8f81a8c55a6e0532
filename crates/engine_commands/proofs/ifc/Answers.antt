-- One value is stored after the other.
use Rattle.device.proofs.Arms.{arms}
use Rattle.engine_commands.proofs.ifc.Goals as goal

pub returns : goal.returns
returns c = search arms
