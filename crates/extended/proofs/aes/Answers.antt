-- The byte written, the state and the frame are the rule's, by the test on the way.
use Prim.Native.Nat.{◌+◌}
use mathlib.Core.Path.{ap, ◌∙◌}
use Rattle.device.specs.Change.{seconding}
use Rattle.device.specs.Extended.{aes}
use Rattle.device.specs.Reply.{sends}
use Rattle.device.specs.Sent.{Sent}
use Rattle.device.specs.declared.Device.{Device}
use Rattle.device.proofs.Arms.{arms}
use Rattle.record.proofs.Whole.{record_is}
use Rattle.record.specs.Record.{device_of}
use Rattle.extended.proofs.InPlace.{unchanged, by_second, does, stays}
use Rattle.extended.proofs.aes.Goals as goal

pub returns-then-state-eq0 : goal.returns-then-state-eq0
unfolding aes
returns-then-state-eq0 c =
    let b = c.args.rec.now in
    let a = c.args.address in
    let h = c.sends.ensures (device_of b)
    ∙ ap (λ (x : Device). sends x (c.args.frame + 1)) (c.placed.ensures (device_of b)) in
    let e = ap (λ (x : Sent).
    let q : Sent = record { device = seconding x.device a; frame = x.frame; handed = x.handed } in q) h in
    does _ (by_second a) b c.take_second.ensures c.sends.result (search (arms, e))

pub returns : goal.returns
unfolding aes
returns c =
    let b = c.args.rec.now in
    does _ unchanged b (stays b (record_is b c.told-rec c.fits-rec)) c.sends-2.result
    (search (arms, c.sends-2.ensures (device_of b)))
