-- The tests are the definition's, clause by clause.
use Rattle.record.specs.Record.{device_of}
use Rattle.address_sound.proofs.Asked.{clause}
use Rattle.address_sound.proofs.simple_right.Goals as goal

pub returns : goal.returns
unfolding device_of
returns c = search clause
