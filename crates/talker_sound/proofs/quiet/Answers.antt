-- The tests are the definition's, byte by byte.
use Rattle.record.specs.Record.{device_of}
use Rattle.talker_sound.proofs.quiet.Goals as goal

pub returns : goal.returns
unfolding device_of
returns c = rw c.word_at.ensures
