-- The code's test is the definition's.
use native.Mathlib.Omega.{arith}
use borrow.Author.Tests.{eq-eqb, ne_eqb}
use Rattle.frame.specs.Decoding.{end}
use Rattle.data.proofs.end_bit.Goals as goal

pub returns-then-message-eq-END : goal.returns-then-message-eq-END
returns-then-message-eq-END c = rw (eq-eqb c.args.message.kind end (omega arith))

pub returns : goal.returns
returns c = rw (ne_eqb c.args.message.kind end (λ e. omega arith))
