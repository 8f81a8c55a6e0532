-- The clause asks for something only where the device wants service.
use borrow.Author.Tests.{lt-ltb, le-ltb}
use lib.ListN.{get_or}
use Rattle.record.specs.Record.{device_of}
use Rattle.sound.proofs.service_able.Goals as goal

pub returns-then-rec-gt-NO_SERVICE : goal.returns-then-rec-gt-NO_SERVICE
unfolding device_of
returns-then-rec-gt-NO_SERVICE c = rw (lt-ltb 0 (get_or c.args.rec.now 6 0) c.if-rec-gt-NO_SERVICE.true) c.has.ensures

pub returns : goal.returns
unfolding device_of
returns c = rw (le-ltb 0 (get_or c.args.rec.now 6 0) c.if-rec-gt-NO_SERVICE.false)
