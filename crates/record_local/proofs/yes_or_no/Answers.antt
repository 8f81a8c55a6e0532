-- Each return follows from the test on its way.
use Rattle.device.proofs.Arms.{arms}
use Rattle.record_local.specs.Local.{yes_or_no}
use Rattle.record_local.proofs.yes_or_no.Goals as goal

pub returns-then-status-eq0 : goal.returns-then-status-eq0
unfolding yes_or_no
returns-then-status-eq0 c = search arms

pub returns : goal.returns
unfolding yes_or_no
returns c = search arms
