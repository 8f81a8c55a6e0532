-- `engine_reading::read` meets its contract: the table's kind and the bits that it leaves free are the decoding.
use borrow.Author.Rules.{rules}
use Rattle.engine_reading.proofs.Bits.{few, is_decoding}
use Rattle.engine_reading.proofs.read.Statement.{statement}
use Rattle.engine_reading.proofs.read.Tie as tie

free-bits-requires : tie.Need-free-bits-requires
free-bits-requires c κs = rw c.kind-kind.ensures (few _)

returns : tie.Need-returns
returns c = rw (c.free-bits.ensures, c.before.kind-kind.ensures) (is_decoding _)

pub read_spec : {M : Type 1} → statement M
read_spec =
    tie.close
    (tie.spec
    (λ c κs. search rules)
    free-bits-requires
    (λ c. search rules)
    (λ c. search rules)
    returns)
