-- Each return follows from the tests on its way.
use Rattle.device.specs.Extended.{sad_listens}
use Rattle.device.proofs.Arms.{arms, when_le, when, unless}
use Rattle.record.specs.Record.{device_of}
use Rattle.extended.proofs.sad_listens.Goals as goal

pub returns-then-has-2 : goal.returns-then-has-2
unfolding sad_listens device_of
returns-then-has-2 c =
    when_le _ _ c.if-rec-ge-RECEIVED.true
    (when _ _ c.has.ensures c.if-has.true
    (when _ _ c.has-then-has.ensures c.if-has-2.true (c.roles.ensures (device_of c.args.rec.now))))

pub returns-then-has : goal.returns-then-has
unfolding sad_listens device_of
returns-then-has c =
    when_le _ _ c.if-rec-ge-RECEIVED.true
    (when _ _ c.has.ensures c.if-has.true
    (unless _ _ c.has-then-has.ensures c.if-has-2.false (c.listening.ensures (device_of c.args.rec.now))))

pub returns-then-rec-ge-RECEIVED : goal.returns-then-rec-ge-RECEIVED
unfolding sad_listens device_of
returns-then-rec-ge-RECEIVED c = search arms

pub returns : goal.returns
unfolding sad_listens device_of
returns c = search arms
