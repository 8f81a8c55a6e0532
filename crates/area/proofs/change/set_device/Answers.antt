-- The 64 bytes lent are those of record i, and with them given back the area is that of the loop with the device.
use Rattle.std.proofs.Common.{rules}
use Rattle.area.proofs.Held.{device_put_back}
use Rattle.area.proofs.change.set_device.Goals as goal

pub returns : goal.returns
returns c =
    device_put_back c.args.area.now (search rules) c.args.i c.record_start-at.result c.requires.0 c.record_start-at.ensures
    c.args.d _ c.requires.1 (search rules)
