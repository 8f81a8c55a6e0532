-- `record::read::has_further` meets its contract: byte 7 holds the further abilities.
use borrow.Author.Rules.{rules}
use Rattle.record.specs.Record.{device_of}
use Rattle.record.proofs.read.has_further.Statement.{statement}
use Rattle.record.proofs.read.has_further.Tie as tie

pub has_further_spec : {M : Type 1} → statement M
unfolding device_of
has_further_spec = tie.close (tie.spec (λ c. search rules) (λ c. search rules))
