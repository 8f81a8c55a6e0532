-- The bytes written and the state are the rule's, by the tests on the way.
use mathlib.Core.Path.{ap}
use Rattle.device.specs.Device.{received}
use Rattle.device.specs.Change.{flagging}
use Rattle.device.specs.Extended.{extended_lad}
use Rattle.device.specs.declared.Device.{Device}
use Rattle.device.proofs.Arms.{arms}
use Rattle.record.specs.Record.{device_of}
use Rattle.extended.proofs.InPlace.{by_flags, stands}
use Rattle.extended.proofs.lad.Goals as goal

pub returns-then-has : goal.returns-then-has
unfolding extended_lad
returns-then-has c =
    let b = c.args.rec.now in
    let e = ap (λ (x : Device). flagging x received 0) (c.to_remote.ensures (device_of b)) in
    stands _ (by_flags received 0) b c.flag.ensures c.to_remote.result (search (arms, e))

pub returns-then-address-state : goal.returns-then-address-state
unfolding extended_lad
returns-then-address-state c =
    stands _ (by_flags 0 0) c.args.rec.now c.flag-then-address-state.ensures c.args.state (search arms)

pub returns : goal.returns
unfolding extended_lad
returns c =
    stands _ (by_flags 0 0) c.args.rec.now c.flag-2.ensures c.args.state (search arms)
