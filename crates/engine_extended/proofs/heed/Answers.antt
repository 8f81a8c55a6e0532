-- Each return follows from the tests on its way.
use Rattle.device.specs.Extended.{heeding}
use Rattle.device.proofs.Arms.{arms}
use Rattle.engine_extended.proofs.heed.Goals as goal

pub returns-then-kind : goal.returns-then-kind
unfolding heeding
returns-then-kind c = search arms

pub returns-else-kind : goal.returns-else-kind
unfolding heeding
returns-else-kind c = search arms
