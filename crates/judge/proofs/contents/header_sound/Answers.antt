-- Byte 1, and the rest.
use Rattle.device.specs.PowerOn.{bytes_from}
use Rattle.record.specs.Record.{zeros}
use Rattle.judge.proofs.contents.header_sound.Goals as goal

pub returns : goal.returns
unfolding zeros bytes_from
returns c = rw c.rest_zero.ensures
