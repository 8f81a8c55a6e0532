-- The frame goes out, and is counted in the record.
use Rattle.std.proofs.Common.{ap}
use Rattle.device.specs.Reply.{sends, sends_data}
use Rattle.device.specs.declared.Device.{Device}
use Rattle.record.specs.Record.{device_of}
use Rattle.engine_reply.proofs.sends_data.Goals as goal

pub returns : goal.returns
unfolding device_of sends_data
returns c =
    rw (← c.data_frame-frame.ensures) (ap (λ (d : Device). sends d c.data_frame-frame.result) c.count.ensures)
