-- The last frame sent is read where the definition reads it.
use Rattle.std.proofs.Common.{refl}
use Rattle.record.specs.Record.{device_of}
use Rattle.engine_talker.proofs.last.Goals as goal

pub returns : goal.returns
unfolding device_of
returns c = refl
