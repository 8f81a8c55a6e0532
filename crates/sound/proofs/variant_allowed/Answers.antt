-- Each return follows from the test on its way.
use Rattle.std.proofs.Common.{◌≡◌, refl, eqb, Bool, true, false, bit_and}
use mathlib.Core.Bool.{not}
use borrow.Author.Tests.{eq-eqb, ne_eqb}
use lib.ListN.{get_or}
use Rattle.device.specs.PowerOn.{power_on}
use Rattle.sound.proofs.variant_allowed.Goals as goal

twice : (b : Bool) → not (not b) ≡ b
twice true = refl
twice false = refl

pub returns-then-item-ne0 : goal.returns-then-item-ne0
unfolding power_on
returns-then-item-ne0 c =
    let item = c.args.item.now in
    rw (ne_eqb (bit_and (get_or item 12 0) 2) 0 c.if-item-ne0.true, twice (eqb (bit_and (get_or item 0 0) 32) 0))

pub returns : goal.returns
unfolding power_on
returns c = rw (eq-eqb (bit_and (get_or c.args.item.now 12 0) 2) 0 c.if-item-ne0.false)
