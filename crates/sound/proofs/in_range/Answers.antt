-- The tests are the definition's, byte by byte.
use Rattle.std.proofs.Common.{refl}
use Rattle.record.specs.Record.{device_of}
use Rattle.sound.proofs.in_range.Goals as goal

pub returns : goal.returns
unfolding device_of
returns c = refl
