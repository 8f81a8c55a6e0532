-- The call made in the record is the device's.
use Rattle.std.proofs.Common.{rules}
use Rattle.record_local.specs.Local.{wishes}
use Rattle.keeps.proofs.Keeps.{wish_good}
use Rattle.local_calls.proofs.wish.Goals as goal

pub returns : goal.returns
returns c = c.in_record.ensures (λ d. wishes d c.args.wish) (λ d g. wish_good d c.args.wish g) (λ b r x m. search rules)
