-- Byte 7 says the variant, and the clauses of the variant count.
use Rattle.std.proofs.Common.{◌∙◌}
use Rattle.record.specs.Record.{device_of}
use Rattle.engine_addresses.proofs.ByConfigured.{is_extended, is_simple}
use Rattle.engine_addresses.proofs.addresses.Goals as goal

pub returns-then-rec-ne0 : goal.returns-then-rec-ne0
unfolding device_of
returns-then-rec-ne0 c = c.extended.ensures ∙ is_extended (device_of c.args.rec.now) c.if-rec-ne0.true

pub returns : goal.returns
unfolding device_of
returns c = c.simple.ensures ∙ is_simple (device_of c.args.rec.now) c.if-rec-ne0.false
