-- Each return follows from the test on its way, and the frame marked is that of the byte's message.
use mathlib.Core.Path.{◌≡◌, refl}
use mathlib.Core.Bool.{true, false, ◌&&◌}
use Prim.Native.Nat.{◌+◌}
use native.Mathlib.Omega.{arith}
use lib.Dec.{eqb}
use Rattle.frame.specs.Messages.{messages, first_in, first_of}
use Rattle.frame.specs.Decoding.{message, dab, end}
use Rattle.device.specs.Device.{end_last}
use Rattle.device.specs.Reply.{data_frame}
use Rattle.device.proofs.Arms.{when, unless}
use Rattle.record.specs.Record.{device_of}
use Rattle.reply.proofs.data_frame.Goals as goal

-- the last byte, asked for as END
pub returns-then-state-rec : goal.returns-then-state-rec
unfolding data_frame device_of messages first_in first_of
returns-then-state-rec c =
    let d = device_of c.args.rec.now in
    let n = c.args.state.sent in
    let t : (eqb (n + 1) d.loadlength && eqb d.choice end_last) ≡ true = c.if-state-rec.true in
    rw (← c.load_at-byte.ensures)
    (when _ _ refl t (c.marked.ensures d (message end c.load_at-byte.result 0) (omega arith) refl))

-- any other
pub returns : goal.returns
unfolding data_frame device_of messages first_in first_of
returns c =
    let d = device_of c.args.rec.now in
    let n = c.args.state.sent in
    let t : (eqb (n + 1) d.loadlength && eqb d.choice end_last) ≡ false = c.if-state-rec.false in
    rw (← c.load_at-byte.ensures)
    (unless _ _ refl t (c.marked-2.ensures d (message dab c.load_at-byte.result 0) (omega arith) refl))
