-- Its test is the rule's, and its bits move a device as the rule's pairs do.
use Rattle.std.proofs.Common.{refl, ◌∙◌, arith}
use Rattle.device.specs.Device.{LOCS, REMS, LWLS, RWLS}
use Rattle.device.specs.Choose.{choose}
use Rattle.device.specs.Remote.{moves, to_remote}
use Rattle.device.proofs.Arms.{arms, when_eq}
use Rattle.record.specs.Record.{device_of}
use Rattle.engine_remote.proofs.Moves.{by_bits}
use Rattle.engine_remote.proofs.to_remote.Goals as goal

pub returns-then-rec-eq1 : goal.returns-then-rec-eq1
unfolding device_of to_remote moves choose
returns-then-rec-eq1 c =
    when_eq _ _ c.if-rec-eq1.true
    (c.bits.ensures ∙ by_bits 3 1 LOCS REMS LWLS RWLS refl (omega arith) (omega arith) (device_of c.args.rec.now))

pub returns-else-rec-eq1 : goal.returns-else-rec-eq1
unfolding device_of to_remote
returns-else-rec-eq1 c = search arms
