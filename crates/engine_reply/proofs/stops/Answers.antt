-- The record is in state 1, and the answer goes out.
use Rattle.device.proofs.Arms.{arms}
use Rattle.engine_reply.proofs.stops.Goals as goal

pub returns : goal.returns
returns c = search arms
