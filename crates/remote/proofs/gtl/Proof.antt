-- `remote::gtl` meets its contract: at an addressed listener the state moves, and else nothing does.
use borrow.Author.Rules.{rules}
use Rattle.device.specs.Remote.{gtl}
use Rattle.device.proofs.Arms.{arms, when_eq}
use Rattle.remote.proofs.gtl.Statement.{statement}
use Rattle.remote.proofs.gtl.Tie as tie

returns-then-state-eq1 : tie.Need-returns-then-state-eq1
unfolding gtl
returns-then-state-eq1 c d = when_eq _ _ c.if-state-eq1.true (c.moved.ensures d)

pub gtl_spec : {M : Type 1} → statement M
unfolding gtl
gtl_spec = tie.close (tie.spec (λ c κs. search rules) returns-then-state-eq1 (λ c. search arms))
