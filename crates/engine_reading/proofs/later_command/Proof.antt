-- `engine_reading::later_command` meets its contract: each code is looked up, and the other codes of the group are of
-- no kind.
use borrow.Author.Rules.{rules}
use Prim.Native.Nat.{ℕ, ◌+◌}
use mathlib.Core.Path.{refl}
use mathlib.Core.Bool.{◌||◌}
use mathlib.Core.List.{List, [], ◌∷◌}
use lib.Dec.{ltb}
use borrow.Author.Tests.{le-ltb}
use Rattle.frame.specs.Messages.{messages, within, lookup, kind_at}
use Rattle.frame.proofs.Table.{same}
use Rattle.engine_reading.proofs.Codes.{keyed, is_in, not_in, others}
use Rattle.engine_reading.proofs.later_command.Statement.{statement}
use Rattle.engine_reading.proofs.later_command.Tie as tie

abbrev g : ℕ → ℕ
g x = kind_at (0x480 + x)

abbrev keys : List ℕ
keys = 16 ∷ 18 ∷ 19 ∷ 26 ∷ 27 ∷ []

returns-then-low-lt16 : tie.Need-returns-then-low-lt16
unfolding messages within lookup kind_at
returns-then-low-lt16 c = same (λ x. 17) g 16 _ refl c.if-low-lt16.true

returns-in-16 : tie.Need-returns-in-16
unfolding messages within lookup kind_at
returns-in-16 c = keyed g 16 c.in-16.is refl

returns-in-18 : tie.Need-returns-in-18
unfolding messages within lookup kind_at
returns-in-18 c = keyed g 18 c.in-18.is refl

returns-in-19 : tie.Need-returns-in-19
unfolding messages within lookup kind_at
returns-in-19 c = keyed g 19 c.in-19.is refl

returns-in-26 : tie.Need-returns-in-26
unfolding messages within lookup kind_at
returns-in-26 c = keyed g 26 c.in-26.is refl

returns-in-27 : tie.Need-returns-in-27
unfolding messages within lookup kind_at
returns-in-27 c = keyed g 27 c.in-27.is refl

returns-in_default : tie.Need-returns-in_default
unfolding messages within lookup kind_at
returns-in_default c =
    let i = c.before in
    let x = i.before.args.low in
    others g (λ y. ltb y 16 || is_in y keys) 32 refl x i.before.requires
    (rw (le-ltb x 16 i.if-low-lt16.false) (not_in x keys (
      search rules,
      (
        search rules,
        (
          search rules,
          (search rules, (search rules, tt)),
        ),
      ),
    )))

pub later_command_spec : {M : Type 1} → statement M
later_command_spec =
    tie.close
    (tie.spec
    returns-then-low-lt16
    returns-in-16
    returns-in-18
    returns-in-19
    returns-in-26
    returns-in-27
    returns-in_default)
