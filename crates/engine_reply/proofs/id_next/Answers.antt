-- A place within is that byte of the record, and past them there is none.
use Rattle.std.proofs.Common.{rules}
use Rattle.record.specs.Record.{device_of}
use Rattle.record.proofs.Places.{place, no_place}
use Rattle.engine_reply.proofs.id_next.Goals as goal

pub returns-then-at-lt-MOST_ID : goal.returns-then-at-lt-MOST_ID
unfolding device_of
returns-then-at-lt-MOST_ID c = place _ 24 8 _ (search rules)

pub returns : goal.returns
unfolding device_of
returns c = no_place _ 24 8 _ (search rules)
