-- The frame is kept and counted, and goes out.
use Rattle.device.specs.Reply.{sends_data}
use Rattle.device.proofs.Arms.{sends_on}
use Rattle.record.specs.Record.{device_of}
use Rattle.reply.proofs.send_data.Goals as goal

pub returns : goal.returns
unfolding sends_data
returns c =
    let d = device_of c.args.rec.now in
    rw (← c.data_frame-frame.ensures)
    (sends_on c.data_frame-frame.result (c.sends.ensures d) (c.counting.ensures d))
