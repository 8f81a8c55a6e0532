-- Each return follows from the test on its way.
use Rattle.std.proofs.Common.{rules, arith}
use Rattle.device.specs.Change.{statusing}
use Rattle.device.proofs.Arms.{arms}
use Rattle.record.specs.Record.{device_of}
use Rattle.record_local.specs.Local.{sets_status}
use Rattle.record_local.proofs.InPlace.{status_written, left_alone, left}
use Rattle.record_local.proofs.status.Goals as goal

pub returns-then-has : goal.returns-then-has
unfolding sets_status
returns-then-has c =
    left c.args.rec.now (statusing (device_of c.args.rec.now) c.args.status) (search arms) (status_written c.args.rec.now c.told-rec (search rules) c.args.status)

pub returns : goal.returns
unfolding sets_status
returns c = left_alone c.args.rec.now 7 (λ e. omega arith) (search arms)
