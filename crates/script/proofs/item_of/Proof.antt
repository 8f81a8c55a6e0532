-- Two digits below 16 make a byte.
use native.Mathlib.Nat.{zero-add}
use native.Mathlib.Omega.{arith}
use borrow.Author.Rules.{rules}
use Rattle.script.proofs.Scripts.{group_digits}
use Rattle.script.proofs.item_of.Statement.{statement}
use Rattle.script.proofs.item_of.Tie as tie

mul_abilities : tie.Need-overflow_mul-abilities
mul_abilities c =
    omega (arith, group_digits c.args.g.now c.requires.1, c.digit.ensures)

add_abilities : tie.Need-overflow_add-abilities
add_abilities c =
    omega (arith, group_digits c.args.g.now c.requires.1, c.digit.ensures, c.digit-2.ensures)

mul_fixed : tie.Need-overflow_mul-fixed
mul_fixed c =
    omega (arith, group_digits c.args.g.now c.requires.1, c.digit-3.ensures)

add_fixed : tie.Need-overflow_add-fixed
add_fixed c =
    omega (arith, group_digits c.args.g.now c.requires.1, c.digit-3.ensures, c.digit-4.ensures)

returns : tie.Need-returns
returns c =
    rw (c.digit.ensures, c.digit-2.ensures, c.digit-3.ensures, c.digit-4.ensures) (simp zero-add)

pub item_of_spec : {M : Type 1} → statement M
item_of_spec =
    tie.close
    (tie.spec
    (λ c. search rules)
    (λ c κs. search rules)
    mul_abilities
    (λ c. search rules)
    (λ c κs. search rules)
    add_abilities
    (λ c. search rules)
    (λ c κs. search rules)
    mul_fixed
    (λ c. search rules)
    (λ c κs. search rules)
    add_fixed
    returns)
