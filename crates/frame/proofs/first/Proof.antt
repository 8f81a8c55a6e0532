-- `frame::first` meets its contract: its constant holds the first code of each kind, by one computed test.
use borrow.Author.Rules.{rules}
use Rattle.frame.specs.Messages.{kinds, messages, first_in, first_of}
use Rattle.frame.proofs.Table.{entry}
use Rattle.frame.proofs.first.Statement.{statement}
use Rattle.frame.proofs.first.Tie as tie

pub first_spec : {M : Type 1} → statement M
unfolding messages first_in first_of
first_spec =
    tie.close (tie.spec (λ c. search rules) (λ c. search rules) (λ c. entry first_of kinds _ c.requires))
