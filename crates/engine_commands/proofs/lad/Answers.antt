-- Each return follows from the tests on its way, and what is changed one after the other is the rule's.
use Rattle.std.proofs.Common.{ap, ◌∙◌}
use Rattle.device.specs.Change.{listening, talking}
use Rattle.device.specs.Commands.{lad}
use Rattle.device.specs.declared.Device.{Device}
use Rattle.device.proofs.Arms.{arms, when_eq}
use Rattle.record.specs.Record.{device_of}
use Rattle.engine_bytes.proofs.Ways.{able, unable}
use Rattle.engine_commands.proofs.lad.Goals as goal

pub returns-then-address-rec : goal.returns-then-address-rec
unfolding device_of lad
returns-then-address-rec c = search (arms, unable)

pub returns-then-able-eq0 : goal.returns-then-able-eq0
unfolding device_of lad
returns-then-able-eq0 c = search (arms, unable)

pub returns-then-able-ne0 : goal.returns-then-able-ne0
unfolding device_of lad
returns-then-able-ne0 c =
    let r = c.store.ensures ∙ ap (λ (d : Device). listening d 1) c.to_remote.ensures in
    let e = c.talk.ensures ∙ ap (λ (d : Device). talking d 0) r in
    when_eq _ _ c.if-address-rec.false (able _ _ c.if-able-eq0.false (able _ _ c.if-able-ne0.true e))

pub returns-else-able-ne0 : goal.returns-else-able-ne0
unfolding device_of lad
returns-else-able-ne0 c =
    let r = c.store.ensures ∙ ap (λ (d : Device). listening d 1) c.to_remote.ensures in
    when_eq _ _ c.if-address-rec.false (able _ _ c.if-able-eq0.false (unable _ _ c.if-able-ne0.false r))
