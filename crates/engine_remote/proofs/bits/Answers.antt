-- Its test is the one of `bits_of`.
use borrow.Author.Tests.{lt-ltb, le-ltb}
use Rattle.record.specs.Record.{device_of}
use Rattle.engine_remote.proofs.bits.Goals as goal

pub returns-then-state-lt-STATES : goal.returns-then-state-lt-STATES
unfolding device_of
returns-then-state-lt-STATES c = rw (lt-ltb _ 4 c.if-state-lt-STATES.true) c.store.ensures

pub returns-else-state-lt-STATES : goal.returns-else-state-lt-STATES
unfolding device_of
returns-else-state-lt-STATES c = rw (le-ltb _ 4 c.if-state-lt-STATES.false)
