-- `remote::to_remote` meets its contract: while enabled the state moves, and else nothing does.
use borrow.Author.Rules.{rules}
use Rattle.device.specs.Remote.{to_remote}
use Rattle.device.proofs.Arms.{arms, when_eq}
use Rattle.remote.proofs.to_remote.Statement.{statement}
use Rattle.remote.proofs.to_remote.Tie as tie

returns-then-state-eq1 : tie.Need-returns-then-state-eq1
unfolding to_remote
returns-then-state-eq1 c d = when_eq _ _ c.if-state-eq1.true (c.moved.ensures d)

pub to_remote_spec : {M : Type 1} → statement M
unfolding to_remote
to_remote_spec = tie.close (tie.spec (λ c κs. search rules) returns-then-state-eq1 (λ c. search arms))
