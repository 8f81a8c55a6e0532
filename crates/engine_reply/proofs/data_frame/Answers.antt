-- The byte is an END or a DAB by the test of the definition.
use Rattle.std.proofs.Common.{◌≡◌, refl, true, false, ◌&&◌, ◌+◌, eqb, arith}
use Rattle.frame.specs.Decoding.{has_c1}
use Rattle.device.specs.Device.{end_last}
use Rattle.device.specs.Reply.{data_frame}
use Rattle.device.proofs.Arms.{when, unless}
use Rattle.record.specs.Record.{device_of}
use Rattle.engine_reply.proofs.data_frame.Goals as goal

pub marked-requires : goal.marked-requires
unfolding has_c1
marked-requires c = (refl, omega arith)

pub returns-then-rec : goal.returns-then-rec
unfolding data_frame device_of
returns-then-rec c =
    let d = device_of c.args.rec.now in
    let t : (eqb (d.sent + 1) d.loadlength && eqb d.choice end_last) ≡ true = c.if-rec.true in
    rw (← c.data_next-offset.ensures) (when _ _ refl t c.marked.ensures)

pub marked-requires-2 : goal.marked-requires-2
unfolding has_c1
marked-requires-2 c = (refl, omega arith)

pub returns : goal.returns
unfolding data_frame device_of
returns c =
    let d = device_of c.args.rec.now in
    let t : (eqb (d.sent + 1) d.loadlength && eqb d.choice end_last) ≡ false = c.if-rec.false in
    rw (← c.data_next-offset.ensures) (unless _ _ refl t c.marked-2.ensures)
