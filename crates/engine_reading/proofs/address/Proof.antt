-- `engine_reading::address` meets its contract: its test is the definition's.
use borrow.Author.Tests.{eq-eqb, ne_eqb}
use Rattle.engine_reading.proofs.address.Statement.{statement}
use Rattle.engine_reading.proofs.address.Tie as tie

pub address_spec : {M : Type 1} → statement M
address_spec =
    tie.close
    (tie.spec
    (λ c. rw (eq-eqb _ 31 c.if-low-eq31.true))
    (λ c. rw (ne_eqb _ 31 c.if-low-eq31.false)))
