-- The tests are what is left of the clauses in state 2.
use Rattle.record.specs.Record.{device_of}
use Rattle.engine_talker.proofs.ByState.{data_right}
use Rattle.engine_talker.proofs.sends_data.Goals as goal

pub returns : goal.returns
unfolding device_of
returns c = rw c.last.ensures (data_right (device_of c.args.rec.now) c.requires)
