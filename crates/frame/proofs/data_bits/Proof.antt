-- `frame::data_bits` meets its contract: it cuts where the definition does.
use mathlib.Core.Path.{refl}
use borrow.Author.Rules.{rules}
use Rattle.frame.proofs.data_bits.Statement.{statement}
use Rattle.frame.proofs.data_bits.Tie as tie

returns : tie.Need-returns
returns c = refl

pub data_bits_spec : {M : Type 1} → statement M
data_bits_spec = tie.close (tie.spec (λ c. search rules) returns)
