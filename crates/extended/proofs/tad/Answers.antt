-- The bytes written and the state are the rule's, by the tests on the way.
use mathlib.Core.Path.{ap}
use Rattle.device.specs.Change.{flagging}
use Rattle.device.specs.Device.{received}
use Rattle.device.specs.Extended.{extended_tad}
use Rattle.device.specs.declared.Device.{Device}
use Rattle.device.proofs.Arms.{arms}
use Rattle.record.specs.Record.{device_of}
use Rattle.extended.proofs.InPlace.{by_flags, stands}
use Rattle.extended.proofs.tad.Goals as goal

pub returns-then-talks : goal.returns-then-talks
unfolding extended_tad
returns-then-talks c =
    stands _ (by_flags 0 received) c.args.rec.now c.flag.ensures c.args.state (search arms)

pub returns-then-address-state : goal.returns-then-address-state
unfolding extended_tad
returns-then-address-state c =
    let b = c.args.rec.now in
    let e = ap (λ (x : Device). flagging x 0 0) (c.talking.ensures (device_of b)) in
    stands _ (by_flags 0 0) b c.flag-then-address-state.ensures c.talking.result (search (arms, e))

pub returns : goal.returns
unfolding extended_tad
returns c =
    let b = c.args.rec.now in
    let e = ap (λ (x : Device). flagging x 0 0) (c.talking-2.ensures (device_of b)) in
    stands _ (by_flags 0 0) b c.flag-2.ensures c.talking-2.result (search (arms, e))
