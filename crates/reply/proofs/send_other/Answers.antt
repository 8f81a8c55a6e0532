-- The frame is kept and counted, and goes out.
use mathlib.Core.Path.{refl}
use native.Mathlib.Omega.{arith}
use Rattle.frame.specs.Messages.{messages, first_in, first_of}
use Rattle.frame.specs.Decoding.{message, dab}
use Rattle.device.specs.Reply.{sends_other}
use Rattle.device.proofs.Arms.{sends_on}
use Rattle.record.specs.Record.{device_of}
use Rattle.reply.proofs.send_other.Goals as goal

pub returns : goal.returns
unfolding sends_other messages first_in first_of
returns c =
    let d = device_of c.args.rec.now in
    rw (← c.other_byte-byte.ensures, ← c.marked-frame.ensures d (message dab c.other_byte-byte.result 0) (omega arith) refl)
    (sends_on c.marked-frame.result (c.sends.ensures d) (c.counting.ensures d))
