-- The length, the count, the choice and the data are put at their places.
use Rattle.std.proofs.Common.{rules}
use Rattle.record_local.proofs.InPlace.{data_written}
use Rattle.record_local.proofs.loading.Goals as goal

pub returns : goal.returns
returns c = rw c.fill.ensures (data_written c.args.rec.now c.told-rec (search rules) c.args.bytes.now c.args.choice)
