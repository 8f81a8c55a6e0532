-- The groups are all the clauses, and the first that fails decides.
use Rattle.record.proofs.Both.{both, chain}
use Rattle.sound.proofs.Groups.{grouped}
use Rattle.sound.proofs.record_sound.Goals as goal

pub returns-then-talker_right : goal.returns-then-talker_right
returns-then-talker_right c = rw grouped (search (both, chain))

pub returns-then-able : goal.returns-then-able
returns-then-able c = rw grouped (search (both, chain))

pub returns-then-zero_past : goal.returns-then-zero_past
returns-then-zero_past c = rw grouped (search (both, chain))

pub returns-then-in_range : goal.returns-then-in_range
returns-then-in_range c = rw grouped (search (both, chain))

pub returns : goal.returns
returns c = rw grouped (search (both, chain))
