-- The clause asks for something only where the ability is there.
use lib.Bits.{bit_and}
use borrow.Author.Tests.{eq-eqb, ne_eqb}
use Rattle.sound.proofs.service_with_status.Goals as goal

pub returns-then-abilities-ne0 : goal.returns-then-abilities-ne0
returns-then-abilities-ne0 c = λ d e. rw (e, ne_eqb (bit_and c.args.abilities 128) 0 c.if-abilities-ne0.true)

pub returns : goal.returns
returns c = λ d e. rw (e, eq-eqb (bit_and c.args.abilities 128) 0 c.if-abilities-ne0.false)
