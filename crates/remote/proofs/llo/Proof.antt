-- `remote::llo` meets its contract: while enabled the state moves, and else nothing does.
use borrow.Author.Rules.{rules}
use Rattle.device.specs.Remote.{llo}
use Rattle.device.proofs.Arms.{arms, when_eq}
use Rattle.remote.proofs.llo.Statement.{statement}
use Rattle.remote.proofs.llo.Tie as tie

returns : tie.Need-returns
unfolding llo
returns c d = when_eq _ _ c.if-state-ne1.false (c.moved.ensures d)

pub llo_spec : {M : Type 1} → statement M
unfolding llo
llo_spec = tie.close (tie.spec (λ c. search arms) (λ c κs. search rules) returns)
