-- Each return follows from the test on its way.
use Rattle.std.proofs.Common.{arith}
use Rattle.device.proofs.Arms.{arms}
use Rattle.record.specs.Record.{device_of}
use Rattle.record_local.specs.Local.{wishing, wishes}
use Rattle.record_local.proofs.InPlace.{left_alone, left}
use Rattle.record_local.proofs.wish.Goals as goal

pub returns-then-has : goal.returns-then-has
unfolding wishes
returns-then-has c = left c.args.rec.now (wishing (device_of c.args.rec.now) c.args.wish) (search arms) c.wishing.ensures

pub returns : goal.returns
unfolding wishes
returns c = left_alone c.args.rec.now 7 (λ e. omega arith) (search arms)
