-- The tests are what is left of the clauses outside states 2 to 5.
use Rattle.record.specs.Record.{device_of}
use Rattle.engine_talker.proofs.ByState.{quiet_right}
use Rattle.engine_talker.proofs.quiet.Goals as goal

pub returns : goal.returns
unfolding device_of
returns c = rw c.last.ensures (quiet_right (device_of c.args.rec.now) c.requires)
