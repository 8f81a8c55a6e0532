-- Each return follows from the test on its way, and the changes are the rule's, one after the other.
use Rattle.std.proofs.Common.{◌+◌, ap, ◌∙◌, get_or}
use Rattle.device.specs.Change.{placed}
use Rattle.device.specs.Extended.{aes}
use Rattle.device.specs.Reply.{sends}
use Rattle.device.specs.declared.Device.{Device}
use Rattle.device.proofs.Arms.{arms, when_eq}
use Rattle.record.specs.Record.{device_of}
use Rattle.engine_extended.proofs.aes.Goals as goal

pub returns-then-rec-ne0 : goal.returns-then-rec-ne0
unfolding device_of aes
returns-then-rec-ne0 c = search arms

pub returns : goal.returns
unfolding device_of aes
returns c =
    let f = c.args.frame in
    let a = get_or c.args.rec.now 2 0 in
    let e = c.place.ensures ∙ ap (λ (d : Device). placed d a 2) c.take_second.ensures in
    when_eq _ _ c.if-rec-ne0.false (ap (λ (d : Device). sends d (f + 1)) e)
