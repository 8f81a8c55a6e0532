-- The bytes written and the state are the rule's, by the tests on the way.
use mathlib.Core.Path.{ap, ◌∙◌}
use Rattle.device.specs.Change.{flagging}
use Rattle.device.specs.Extended.{sad_talks, sad}
use Rattle.device.specs.declared.Device.{Device}
use Rattle.device.proofs.Arms.{arms}
use Rattle.record.proofs.Whole.{record_is}
use Rattle.record.specs.Record.{device_of}
use Rattle.extended.proofs.InPlace.{unchanged, by_flags, stands, stays}
use Rattle.extended.proofs.sad.Goals as goal

pub returns-then-address-rec : goal.returns-then-address-rec
unfolding sad device_of
returns-then-address-rec c =
    let b = c.args.rec.now in
    let e = c.sad_talks.ensures ∙ ap (λ (x : Device). sad_talks x) c.sad_listens.ensures in
    stands _ unchanged b (stays b (record_is b c.told-rec c.fits-rec)) c.sad_talks.result (search (arms, e))

pub returns-then-rec-ge-RECEIVED : goal.returns-then-rec-ge-RECEIVED
unfolding sad device_of
returns-then-rec-ge-RECEIVED c =
    let b = c.args.rec.now in
    let e = ap (λ (x : Device). flagging x 0 0) (c.talking.ensures (device_of b)) in
    stands _ (by_flags 0 0) b c.flag.ensures c.talking.result (search (arms, e))

pub returns : goal.returns
unfolding sad device_of
returns c =
    stands _ (by_flags 0 0) c.args.rec.now c.flag-2.ensures c.args.state (search arms)
