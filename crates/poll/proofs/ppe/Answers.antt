-- Each return follows from the tests on its way.
use Rattle.device.specs.Poll.{ppe}
use Rattle.device.proofs.Arms.{arms, when, when_eq}
use Rattle.record.specs.Record.{device_of}
use Rattle.poll.proofs.ppe.Goals as goal

pub returns-then-state-ne1 : goal.returns-then-state-ne1
unfolding ppe
returns-then-state-ne1 c = search arms

pub returns-then-has_further : goal.returns-then-has_further
unfolding ppe
returns-then-has_further c =
    when_eq _ _ c.if-state-ne1.false
    (when _ _ c.has_further.ensures c.if-has_further.true (c.assigning.ensures (device_of c.args.rec.now)))

pub returns : goal.returns
unfolding ppe
returns c = search arms
