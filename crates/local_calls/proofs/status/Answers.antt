-- The call made in the record is the device's.
use Rattle.std.proofs.Common.{rules}
use Rattle.record_local.specs.Local.{sets_status}
use Rattle.keeps.proofs.Keeps.{status_good}
use Rattle.local_calls.proofs.status.Goals as goal

pub returns : goal.returns
returns c = c.in_record.ensures (λ d. sets_status d c.args.status) (λ d g. status_good d c.args.status (search rules) g) (λ b r x m. search rules)
