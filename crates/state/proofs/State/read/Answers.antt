-- Each value is a byte of the record, the last frame sent two.
use Rattle.record.specs.Record.{device_of}
use Rattle.state.proofs.State.read.Goals as goal

pub returns : goal.returns
unfolding device_of
returns c = rw c.word_at-last.ensures
