-- In each state the tests are what the clauses come to there.
use Rattle.std.proofs.Common.{rules}
use Rattle.record.specs.Record.{device_of}
use Rattle.talker_sound.proofs.States.{idle_right, addressed_right, data_right, status_right, id_right}
use Rattle.talker_sound.proofs.States.{accessory_right, past_right}
use Rattle.talker_sound.proofs.state_right.Goals as goal

pub returns-in-0 : goal.returns-in-0
unfolding device_of
returns-in-0 c = rw c.quiet.ensures (idle_right (device_of c.args.rec.now) c.in-0.is)

pub returns-in-1 : goal.returns-in-1
unfolding device_of
returns-in-1 c = rw (c.talks.ensures, c.quiet-in-1.ensures) (addressed_right (device_of c.args.rec.now) c.in-1.is)

pub returns-in-2 : goal.returns-in-2
unfolding device_of
returns-in-2 c = rw c.has.ensures (data_right (device_of c.args.rec.now) c.in-2.is)

pub returns-in-3 : goal.returns-in-3
unfolding device_of
returns-in-3 c = rw c.has-in-3.ensures (status_right (device_of c.args.rec.now) c.in-3.is)

pub returns-in-4 : goal.returns-in-4
unfolding device_of
returns-in-4 c = rw c.has-in-4.ensures (id_right (device_of c.args.rec.now) c.in-4.is)

pub returns-in-5 : goal.returns-in-5
unfolding device_of
returns-in-5 c = rw c.has-in-5.ensures (accessory_right (device_of c.args.rec.now) c.in-5.is)

pub returns-in_default : goal.returns-in_default
unfolding device_of
returns-in_default c = past_right (device_of c.args.rec.now) (search rules)
