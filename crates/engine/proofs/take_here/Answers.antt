-- The part is a record again, since it is as many bytes.
use Rattle.std.proofs.Common.{rules}
use Rattle.record.proofs.Laws.{record_back}
use Rattle.engine.proofs.take_here.Goals as goal

pub returns-clause-fact : goal.returns-clause-fact
returns-clause-fact c = record {
  long = search rules;
  whole = record_back c.take.new.rec (search rules) (λ i. (c.type_inv.part i).fits);
}
