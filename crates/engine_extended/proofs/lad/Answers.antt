-- Each return follows from the tests on its way, and the changes are the rule's, one after the other.
use Rattle.std.proofs.Common.{ap, ◌∙◌}
use Rattle.device.specs.Change.{flagging}
use Rattle.device.specs.Extended.{extended_lad}
use Rattle.device.specs.declared.Device.{Device}
use Rattle.device.proofs.Arms.{arms, when_eq}
use Rattle.record.specs.Record.{device_of}
use Rattle.engine_bytes.proofs.Ways.{able, unable}
use Rattle.engine_extended.proofs.lad.Goals as goal

pub returns-then-address-rec : goal.returns-then-address-rec
unfolding device_of extended_lad
returns-then-address-rec c = search (arms, able, unable)

pub returns-then-rec-eq0 : goal.returns-then-rec-eq0
unfolding device_of extended_lad
returns-then-rec-eq0 c = search (arms, able, unable)

pub returns : goal.returns
unfolding device_of extended_lad
returns c =
    let e = c.flag-2.ensures ∙ ap (λ (d : Device). flagging d 32 0) c.to_remote.ensures in
    when_eq _ _ c.if-address-rec.false (able _ _ c.if-rec-eq0.false e)
