-- `record::read::talks` meets its contract: the tests are those of the definition.
use borrow.Author.Rules.{rules}
use Rattle.device.proofs.Arms.{arms}
use Rattle.record.proofs.read.talks.Statement.{statement}
use Rattle.record.proofs.read.talks.Tie as tie

pub talks_spec : {M : Type 1} → statement M
talks_spec =
    tie.close
    (tie.spec
    (λ c κs. search rules)
    (λ c κs. search rules)
    (λ c κs. search rules)
    (λ c κs. search rules)
    (λ c. search arms))
