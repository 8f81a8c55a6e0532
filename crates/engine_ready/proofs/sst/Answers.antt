-- Each return follows from the tests on its way, and the poll comes before the reply.
use Rattle.device.specs.Ready.{sst}
use Rattle.device.proofs.Arms.{arms, when_eq, continues_on, talking_on}
use Rattle.record.specs.Record.{device_of}
use Rattle.engine_bytes.proofs.Ways.{able, unable}
use Rattle.engine_ready.proofs.sst.Goals as goal

pub returns-then-rec-ne-ADDRESSED : goal.returns-then-rec-ne-ADDRESSED
unfolding device_of sst
returns-then-rec-ne-ADDRESSED c = search arms

pub returns-then-rec-eq0 : goal.returns-then-rec-eq0
unfolding device_of sst
returns-then-rec-eq0 c = search (arms, able, unable)

pub returns : goal.returns
unfolding device_of sst
returns c =
    when_eq _ _ c.if-rec-ne-ADDRESSED.false
    (able _ _ c.if-rec-eq0.false (continues_on c.continues.ensures (talking_on 3 c.talk.ensures c.polls.ensures)))
