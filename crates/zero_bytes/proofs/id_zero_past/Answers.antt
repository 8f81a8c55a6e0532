-- The part tested is the ID.
use Rattle.std.proofs.Common.{rules}
use Rattle.device.proofs.Bytes.{take_bytes}
use Rattle.record.specs.Record.{device_of}
use Rattle.zero_bytes.proofs.id_zero_past.Goals as goal

pub returns : goal.returns
unfolding device_of
returns c = rw (c.zero_past_length.ensures, take_bytes 8 24 c.args.rec.now (search rules))
