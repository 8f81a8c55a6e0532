-- `engine::read_again` meets its contract: the same frame was read before.
use borrow.Author.Rules.{rules}
use Rattle.engine.proofs.read_again.Statement.{statement}
use Rattle.engine.proofs.read_again.Tie as tie

pub read_again_spec : {M : Type 1} → statement M
read_again_spec =
    tie.close
    (tie.spec
    (λ c. rw c.if-frame-before.true c.requires)
    (λ c κs. search rules)
    (λ c. search rules))
