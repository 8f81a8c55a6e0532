-- `engine_reading::row` meets its contract: its test is the definition's.
use borrow.Author.Rules.{rules}
use borrow.Author.Tests.{lt-ltb, le-ltb}
use Rattle.engine_reading.proofs.row.Statement.{statement}
use Rattle.engine_reading.proofs.row.Tie as tie

pub row_spec : {M : Type 1} → statement M
row_spec =
    tie.close
    (tie.spec
    (λ c. search rules)
    (λ c. rw (lt-ltb _ _ c.if-low-count.true))
    (λ c. rw (le-ltb _ _ c.if-low-count.false)))
