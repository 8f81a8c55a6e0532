-- The call made in the record is the device's.
use Rattle.std.proofs.Common.{rules}
use Rattle.record_local.specs.Local.{presses}
use Rattle.keeps.proofs.Keeps.{key_good}
use Rattle.local_calls.proofs.key.Goals as goal

pub returns : goal.returns
returns c = c.in_record.ensures presses key_good (λ b r x m. search rules)
