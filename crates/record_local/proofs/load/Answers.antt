-- Each return follows from the tests on its way.
use Rattle.std.proofs.Common.{arith}
use borrow.Author.Tests.{le-leb}
use Rattle.device.specs.Change.{loading}
use Rattle.device.proofs.Arms.{arms}
use Rattle.record.specs.Record.{device_of}
use Rattle.record_local.specs.Local.{loads}
use Rattle.record_local.proofs.InPlace.{left_alone, left}
use Rattle.record_local.proofs.load.Goals as goal

pub returns-then-bytes-gt-MOST_DATA : goal.returns-then-bytes-gt-MOST_DATA
unfolding loads
returns-then-bytes-gt-MOST_DATA c = left_alone c.args.rec.now 8 (λ e. omega arith) (search (arms, le-leb _ _ c.requires))

pub returns-then-rec-eq-SENDING_DATA : goal.returns-then-rec-eq-SENDING_DATA
unfolding loads device_of
returns-then-rec-eq-SENDING_DATA c = left_alone c.args.rec.now 9 (λ e. omega arith) (search (arms, le-leb _ _ c.requires))

pub returns-then-has : goal.returns-then-has
unfolding loads device_of
returns-then-has c =
    left c.args.rec.now (loading (device_of c.args.rec.now) c.args.bytes.now c.args.choice) (search (arms, le-leb _ _ c.requires)) c.loading.ensures

pub returns : goal.returns
unfolding loads
returns c = left_alone c.args.rec.now 7 (λ e. omega arith) (search (arms, le-leb _ _ c.requires))
