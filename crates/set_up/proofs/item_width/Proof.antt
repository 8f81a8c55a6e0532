-- `set_up::item_width` meets its contract: each return follows from the test on its way.
use borrow.Author.Rules.{rules}
use borrow.Author.Tests.{eq-eqb, ne_eqb}
use Rattle.calls.specs.SetUp.{item_width}
use Rattle.set_up.proofs.item_width.Statement.{statement}
use Rattle.set_up.proofs.item_width.Tie as tie

pub item_width_spec : {M : Type 1} → statement M
unfolding item_width
item_width_spec =
    tie.close
    (tie.spec
    (λ c. search rules)
    (λ c. rw (eq-eqb _ _ c.if-bytes-n.true))
    (λ c. search rules)
    (λ c. rw (ne_eqb _ _ c.if-bytes-n.false, eq-eqb _ _ c.if-bytes-n-2.true))
    (λ c. rw (ne_eqb _ _ c.if-bytes-n.false, ne_eqb _ _ c.if-bytes-n-2.false)))
