-- The variant is asked for as the definition does.
use Rattle.device.specs.Take.{takes}
use Rattle.record.specs.Record.{device_of}
use Rattle.engine_bytes.proofs.Ways.{able, unable}
use Rattle.engine_device.proofs.take.Goals as goal

pub returns-then-rec-eq0 : goal.returns-then-rec-eq0
unfolding device_of takes
returns-then-rec-eq0 c = unable _ _ c.if-rec-eq0.true c.simple.ensures

pub returns : goal.returns
unfolding device_of takes
returns c = able _ _ c.if-rec-eq0.false c.extended.ensures
