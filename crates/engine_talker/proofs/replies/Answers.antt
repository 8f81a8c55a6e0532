-- The tests are what is left of the clauses in states 3 to 5.
use Rattle.record.specs.Record.{device_of}
use Rattle.engine_talker.proofs.ByState.{replies_right}
use Rattle.engine_talker.proofs.replies.Goals as goal

pub returns : goal.returns
unfolding device_of
returns c = rw c.last.ensures (replies_right (device_of c.args.rec.now) c.requires)
