-- The clause asks for something only where the device is not configured.
use Rattle.record.specs.Record.{device_of}
use Rattle.address_sound.proofs.Asked.{clause}
use Rattle.address_sound.proofs.unconfigured_second.Goals as goal

pub returns-then-rec-eq0 : goal.returns-then-rec-eq0
unfolding device_of
returns-then-rec-eq0 c = search clause

pub returns : goal.returns
unfolding device_of
returns c = search clause
