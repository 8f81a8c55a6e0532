-- `record::read::has` meets its contract: byte 0 holds the abilities.
use borrow.Author.Rules.{rules}
use Rattle.record.specs.Record.{device_of}
use Rattle.record.proofs.read.has.Statement.{statement}
use Rattle.record.proofs.read.has.Tie as tie

pub has_spec : {M : Type 1} → statement M
unfolding device_of
has_spec = tie.close (tie.spec (λ c. search rules) (λ c. search rules))
