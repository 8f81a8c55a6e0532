-- The clause asks for something only where the device is configured.
use Rattle.record.specs.Record.{device_of}
use Rattle.address_sound.proofs.Asked.{clause}
use Rattle.address_sound.proofs.configured_both.Goals as goal

pub returns-then-rec-eq1 : goal.returns-then-rec-eq1
unfolding device_of
returns-then-rec-eq1 c = search clause

pub returns : goal.returns
unfolding device_of
returns c = search clause
