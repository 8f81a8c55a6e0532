-- The abilities judged are the record's; the first group that fails decides.
use Rattle.std.proofs.Common.{refl}
use Rattle.record.specs.Record.{device_of}
use Rattle.record.proofs.Both.{chain}
use Rattle.sound.proofs.able.Goals as goal

pub returns-then-listener_able : goal.returns-then-listener_able
unfolding device_of
returns-then-listener_able c = search (chain, c.abilities_allowed.ensures (device_of c.args.rec.now) refl)

pub returns : goal.returns
unfolding device_of
returns c = search (chain, c.abilities_allowed.ensures (device_of c.args.rec.now) refl)
