-- The tests are the clauses, on byte 0.
use Rattle.std.proofs.Common.{refl}
use Rattle.record.specs.Record.{device_of}
use Rattle.engine_clauses.proofs.abilities.Goals as goal

pub returns : goal.returns
unfolding device_of
returns c = refl
