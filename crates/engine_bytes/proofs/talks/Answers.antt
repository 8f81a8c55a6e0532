-- The mask of the four is each of the four.
use Rattle.std.proofs.Common.{rules}
use Rattle.record.specs.Record.{device_of}
use Rattle.engine_bytes.proofs.Masks.{any_of_four}
use Rattle.engine_bytes.proofs.talks.Goals as goal

pub returns : goal.returns
unfolding device_of
returns c = any_of_four _ (search rules)
