-- A space and four digits are tested as the definition says.
use borrow.Author.Rules.{rules}
use Rattle.script.proofs.Scripts.{group_is}
use Rattle.script.proofs.group_right.Statement.{statement}
use Rattle.script.proofs.group_right.Tie as tie

returns : tie.Need-returns
returns c =
    group_is c.args.g.now c.digit.ensures c.digit-2.ensures c.digit-3.ensures c.digit-4.ensures

pub group_right_spec : {M : Type 1} → statement M
group_right_spec =
    tie.close
    (tie.spec
    (λ c. search rules)
    (λ c. search rules)
    (λ c κs. search rules)
    (λ c. search rules)
    (λ c κs. search rules)
    (λ c. search rules)
    (λ c κs. search rules)
    (λ c. search rules)
    (λ c κs. search rules)
    returns)
