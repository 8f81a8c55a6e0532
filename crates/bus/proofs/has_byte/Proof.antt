-- `bus::has_byte` meets its contract: a frame with a byte is a command, and its data bits are that byte.
use borrow.Author.Rules.{rules}
use Rattle.bus.proofs.Codes.{has_byte_is}
use Rattle.bus.proofs.has_byte.Statement.{statement}
use Rattle.bus.proofs.has_byte.Tie as tie

returns : tie.Need-returns
returns c =
    rw (c.has_command.ensures, c.data_bits.ensures) (has_byte_is c.args.f)

pub has_byte_spec : {M : Type 1} → statement M
has_byte_spec = tie.close (tie.spec (λ c κs. search rules) (λ c κs. search rules) returns)
