-- Each return follows from the tests on its way.
use Rattle.device.specs.Ready.{sst}
use Rattle.device.proofs.Arms.{arms}
use Rattle.record.specs.Record.{device_of}
use Rattle.ready.proofs.sst.Goals as goal

pub returns-then-has : goal.returns-then-has
unfolding sst
returns-then-has c =
    let d = device_of c.args.rec.now in
    search (arms, c.continues.ensures, c.talking.ensures d, c.polls.ensures d)

pub returns-then-state-eq-ADDRESSED : goal.returns-then-state-eq-ADDRESSED
unfolding sst
returns-then-state-eq-ADDRESSED c = search (arms, c.sends.ensures)

pub returns : goal.returns
unfolding sst
returns c = search (arms, c.sends-2.ensures)
