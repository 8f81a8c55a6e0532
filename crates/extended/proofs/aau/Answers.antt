-- The changes are the rule's, one after the other.
use Prim.Native.Nat.{◌%◌}
use mathlib.Core.Path.{ap, ◌∙◌}
use lib.ListN.{get_or}
use Rattle.device.specs.Device.{received}
use Rattle.device.specs.Change.{flagging, seconding}
use Rattle.device.specs.declared.Device.{Device}
use Rattle.record.specs.Record.{device_of, record_of}
use Rattle.extended.proofs.InPlace.{by_flags, by_both, read_back, stands}
use Rattle.extended.proofs.aau.Goals as goal

pub returns : goal.returns
unfolding device_of
returns c =
    let b = c.args.rec.now in
    let x = get_or b 20 0 % received in
    stands _ (by_both x) b
    (c.take_second.ensures
    ∙ ap (λ (d : Device). record_of (seconding d x)) (read_back _ (by_flags 0 0) b c.flag.ensures))
    c.placed.result
    (ap (λ (d : Device). seconding (flagging d 0 0) x) (c.placed.ensures (device_of b)))
