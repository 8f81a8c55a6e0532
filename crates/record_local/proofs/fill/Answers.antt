-- A copy into zeros is the bytes with zeros behind them.
use Rattle.std.proofs.Common.{◌∙◌}
use Rattle.device.proofs.Bytes.{padded_is}
use Rattle.record_local.proofs.fill.Goals as goal

pub returns : goal.returns
returns c = c.copy.ensures.1 ∙ rw (c.clear.ensures, c.requires.1) (padded_is c.args.bytes.now 32 c.requires.0)
