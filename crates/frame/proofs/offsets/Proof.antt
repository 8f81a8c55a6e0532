-- `frame::offsets` meets its contract: its constant holds the count of each kind's offsets, by one computed test.
use borrow.Author.Rules.{rules}
use Rattle.frame.specs.Messages.{kinds, messages, codes_in, codes_of}
use Rattle.frame.specs.Decoding.{has_c1, offsets_of}
use Rattle.frame.proofs.Table.{entry}
use Rattle.frame.proofs.offsets.Statement.{statement}
use Rattle.frame.proofs.offsets.Tie as tie

pub offsets_spec : {M : Type 1} → statement M
unfolding messages codes_in codes_of has_c1 offsets_of
offsets_spec =
    tie.close (tie.spec (λ c. search rules) (λ c. search rules) (λ c. entry offsets_of kinds _ c.requires))
