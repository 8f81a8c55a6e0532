-- A length and a kind below 256 are their lowest byte, and zeros.
use borrow.Author.Rules.{rules}
use Rattle.saved.proofs.Record.{head_small}
use Rattle.saved.proofs.head_of.Statement.{statement}
use Rattle.saved.proofs.head_of.Tie as tie

returns : tie.Need-returns
returns c = head_small _ _ (search rules) (search rules)

pub head_of_spec : {M : Type 1} → statement M
head_of_spec =
    tie.close
    (tie.spec
    (λ c. search rules)
    returns)
