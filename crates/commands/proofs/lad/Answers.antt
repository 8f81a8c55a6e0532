-- Each return follows from the tests on its way.
use Rattle.device.specs.Commands.{lad}
use Rattle.device.proofs.Arms.{arms}
use Rattle.record.specs.Record.{device_of}
use Rattle.commands.proofs.lad.Goals as goal

pub returns-then-has-2 : goal.returns-then-has-2
unfolding lad
returns-then-has-2 c =
    rw (← c.to_remote-moved.ensures (device_of c.args.rec.now)) (search (arms, c.roles.ensures))

pub returns-then-has : goal.returns-then-has
unfolding lad
returns-then-has c =
    rw (← c.to_remote-moved.ensures (device_of c.args.rec.now)) (search (arms, c.listening.ensures))

pub returns-then-address-state : goal.returns-then-address-state
unfolding lad
returns-then-address-state c = search arms

pub returns : goal.returns
unfolding lad
returns c = search arms
