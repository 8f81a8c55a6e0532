-- A place within is that byte of the record, and past them there is none.
use Rattle.std.proofs.Common.{rules}
use Rattle.record.specs.Record.{device_of}
use Rattle.record.proofs.Places.{place, no_place}
use Rattle.engine_reply.proofs.data_next.Goals as goal

pub returns-then-at-lt-MOST_DATA : goal.returns-then-at-lt-MOST_DATA
unfolding device_of
returns-then-at-lt-MOST_DATA c = place _ 32 32 _ (search rules)

pub returns : goal.returns
unfolding device_of
returns c = no_place _ 32 32 _ (search rules)
