-- Each return follows from the tests on its way, and the own SAD listens before it talks.
use Rattle.std.proofs.Common.{ap, ◌∙◌}
use Rattle.device.specs.Extended.{sad_talks, sad}
use Rattle.device.specs.declared.Device.{Device}
use Rattle.device.proofs.Arms.{arms, when_eq}
use Rattle.record.specs.Record.{device_of}
use Rattle.engine_extended.proofs.sad.Goals as goal

pub returns-then-address-second : goal.returns-then-address-second
unfolding device_of sad
returns-then-address-second c =
    when_eq _ _ c.if-address-second.true
    (c.sad_talks.ensures ∙ ap (λ (d : Device). sad_talks d) c.sad_listens.ensures)

pub returns-then-second-ge-RECEIVED : goal.returns-then-second-ge-RECEIVED
unfolding device_of sad
returns-then-second-ge-RECEIVED c = search arms

pub returns-else-second-ge-RECEIVED : goal.returns-else-second-ge-RECEIVED
unfolding device_of sad
returns-else-second-ge-RECEIVED c = search arms
