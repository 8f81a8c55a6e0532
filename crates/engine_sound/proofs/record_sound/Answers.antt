-- The groups are all the clauses, and the first that fails decides.
use Rattle.record.proofs.Both.{chain}
use Rattle.engine_sound.proofs.Grouped.{grouped}
use Rattle.engine_sound.proofs.record_sound.Goals as goal

pub returns-then-place : goal.returns-then-place
returns-then-place c = rw grouped (search chain)

pub returns-then-zeros_behind : goal.returns-then-zeros_behind
returns-then-zeros_behind c = rw grouped (search chain)

pub returns-then-ranges : goal.returns-then-ranges
returns-then-ranges c = rw grouped (search chain)

pub returns : goal.returns
returns c = rw grouped (search chain)
