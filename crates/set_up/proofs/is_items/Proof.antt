-- `set_up::is_items` meets its contract: the tests are the definition's.
use mathlib.Core.Path.{refl}
use borrow.Author.Rules.{rules}
use Rattle.calls.specs.SetUp.{is_items}
use Rattle.set_up.proofs.is_items.Statement.{statement}
use Rattle.set_up.proofs.is_items.Tie as tie

pub is_items_spec : {M : Type 1} → statement M
unfolding is_items
is_items_spec =
    tie.close
    (tie.spec
    (λ c. search rules)
    (λ c. search rules)
    (λ c. search rules)
    (λ c. refl))
