-- The tests are the ranges, byte by byte.
use Rattle.std.proofs.Common.{refl}
use Rattle.record.specs.Record.{device_of}
use Rattle.engine_clauses.proofs.ranges.Goals as goal

pub returns : goal.returns
unfolding device_of
returns c = refl
