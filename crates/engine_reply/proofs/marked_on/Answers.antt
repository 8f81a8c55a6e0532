-- A frame with C1 is the one that its decoding makes.
use Rattle.device.specs.Reply.{marked}
use Rattle.device.proofs.Arms.{when_eq, unless_eq}
use Rattle.device.proofs.Marked.{asked}
use Rattle.record.specs.Record.{device_of}
use Rattle.engine_reply.proofs.marked_on.Goals as goal

pub returns-then-rec-ne-ASKING : goal.returns-then-rec-ne-ASKING
unfolding device_of marked
returns-then-rec-ne-ASKING c =
    let f = c.args.frame in
    let e = c.requires.0 in
    unless_eq _ _ c.if-rec-ne-ASKING.true (rw e (asked f (rw e at c.requires.1)).frame)

pub returns : goal.returns
unfolding device_of marked
returns c = when_eq _ _ c.if-rec-ne-ASKING.false c.write.ensures
