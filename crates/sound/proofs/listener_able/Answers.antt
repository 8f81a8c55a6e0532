-- The clause asks for something only where the device is a listener.
use borrow.Author.Tests.{eq-eqb, ne_eqb}
use lib.ListN.{get_or}
use Rattle.record.specs.Record.{device_of}
use Rattle.sound.proofs.listener_able.Goals as goal

pub returns-then-rec-eq1 : goal.returns-then-rec-eq1
unfolding device_of
returns-then-rec-eq1 c = rw (eq-eqb (get_or c.args.rec.now 4 0) 1 c.if-rec-eq1.true) c.has.ensures

pub returns : goal.returns
unfolding device_of
returns c = rw (ne_eqb (get_or c.args.rec.now 4 0) 1 c.if-rec-eq1.false)
