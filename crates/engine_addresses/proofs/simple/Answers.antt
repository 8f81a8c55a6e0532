-- The tests are what byte 3 leaves of the clauses.
use Rattle.record.specs.Record.{device_of}
use Rattle.engine_addresses.proofs.ByConfigured.{simple_unconfigured, simple_configured}
use Rattle.engine_addresses.proofs.simple.Goals as goal

pub returns-then-configured-eq0 : goal.returns-then-configured-eq0
unfolding device_of
returns-then-configured-eq0 c = simple_unconfigured (device_of c.args.rec.now) c.if-configured-eq0.true

pub returns : goal.returns
unfolding device_of
returns c = simple_configured (device_of c.args.rec.now) c.if-configured-eq0.false
