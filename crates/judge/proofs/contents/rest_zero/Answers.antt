-- The bytes lent are those from byte 2 on.
use Rattle.device.proofs.Bytes.{take_bytes}
use Rattle.judge.proofs.contents.rest_zero.Goals as goal

pub returns : goal.returns
returns c = rw (← take_bytes 6 2 c.args.header.now c.requires) c.all_zero.ensures
