-- The items have a width between 12 and 14, and are all of the bytes.
use mathlib.Core.Logic.{⊎_elim}
use native.Mathlib.Omega.{arith}
use lib.ListN.{length}
use borrow.Author.Rules.{rules}
use Rattle.record.specs.Sound.{allowed}
use Rattle.calls.proofs.Powered.{width_one, width_few, width_all}
use Rattle.set_up.proofs.items_allowed.Goals as goal

pub all_parts-requires-clause-width : goal.all_parts-requires-clause-width
all_parts-requires-clause-width c =
    rw c.item_width.ensures
    (⊎_elim (λ e. omega arith) (⊎_elim (λ e. omega arith) (λ e. omega arith)) (width_one (length c.args.items.now) c.args.n))

pub all_parts-requires-clause-long : goal.all_parts-requires-clause-long
all_parts-requires-clause-long c =
    let l = length c.args.items.now in
    rw c.item_width.ensures (omega (arith, width_all l c.args.n c.requires.1))

pub all_parts-requires-clause-callable : goal.all_parts-requires-clause-callable
all_parts-requires-clause-callable c = λ part e. let w = width_few (length c.args.items.now) c.args.n in search (rules, w)

pub returns : goal.returns
returns c = rw (← c.item_width.ensures) (c.all_parts.ensures allowed (λ p r e k. search rules))
