-- The frame goes out, and is counted in the record.
use Rattle.std.proofs.Common.{refl, ap, arith}
use Rattle.frame.specs.Decoding.{has_c1}
use Rattle.device.specs.Reply.{sends, sends_other}
use Rattle.device.specs.declared.Device.{Device}
use Rattle.record.specs.Record.{device_of}
use Rattle.engine_reply.proofs.sends_other.Goals as goal

pub marked-frame-requires : goal.marked-frame-requires
unfolding has_c1
marked-frame-requires c = (refl, omega arith)

pub returns : goal.returns
unfolding device_of sends_other
returns c =
    rw (← c.other_byte-offset.ensures, ← c.marked-frame.ensures)
    (ap (λ (d : Device). sends d c.marked-frame.result) c.count.ensures)
