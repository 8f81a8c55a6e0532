-- A number of devices that no loop has does not fit; of another both are the same tests.
use mathlib.Core.Path.{◌≡◌, sym, ◌∙◌}
use mathlib.Core.Bool.{true}
use Prim.Native.Nat.{◌≤◌}
use native.Mathlib.Omega.{arith}
use borrow.Author.Tests.{not-true, not-false}
use Rattle.area.specs.Sizes.{most_devices, is_count}
use Rattle.area.proofs.Areas.{few_counted}
use Rattle.calls.specs.SetUp.{items_fit}
use borrow.Author.Rules.{rules}
use Rattle.set_up.proofs.items_fit.Statement.{statement}
use Rattle.set_up.proofs.items_fit.Tie as tie

returns-then-not-is_count : tie.Need-returns-then-not-is_count
unfolding items_fit
returns-then-not-is_count c = simp (← c.is_count.ensures, not-true c.is_count.result c.if-not-is_count.true-raw)

-- past the first test a loop can have so many
counted : (c : tie.Else-not-is_count) → is_count most_devices c.args.n ≡ true
counted c = sym c.is_count.ensures ∙ not-false c.is_count.result c.if-not-is_count.false-raw

few : (c : tie.Else-not-is_count) → c.args.n ≤ most_devices
few c = few_counted most_devices c.args.n (counted c)

area_size-requires : tie.Need-area_size-requires
area_size-requires c κs = omega (arith, few c)

is_items-requires : tie.Need-is_items-requires
is_items-requires c κs = few c.before

returns : tie.Need-returns
unfolding items_fit
returns c =
    rw (counted c.before.before, c.area_size.ensures, c.is_items.ensures)

pub items_fit_spec : {M : Type 1} → statement M
items_fit_spec =
    tie.close
    (tie.spec
    (λ c κs. search rules)
    returns-then-not-is_count
    area_size-requires
    is_items-requires
    returns)
