-- `engine_data::end_bit` meets its contract: its test is the definition's.
use borrow.Author.Tests.{eq-eqb, ne_eqb}
use Rattle.frame.specs.Decoding.{end}
use Rattle.engine_data.proofs.end_bit.Statement.{statement}
use Rattle.engine_data.proofs.end_bit.Tie as tie

pub end_bit_spec : {M : Type 1} → statement M
end_bit_spec =
    tie.close
    (tie.spec
    (λ c. rw (ne_eqb _ end c.if-message-ne-END.true))
    (λ c. rw (eq-eqb _ end c.if-message-ne-END.false)))
