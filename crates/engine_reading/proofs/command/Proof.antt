-- `engine_reading::command` meets its contract: each code is looked up, and the other codes of the group are of no
-- kind.
use borrow.Author.Rules.{rules}
use Prim.Native.Nat.{ℕ, ◌+◌}
use mathlib.Core.Path.{refl}
use mathlib.Core.List.{List, [], ◌∷◌}
use Rattle.frame.specs.Messages.{messages, within, lookup, kind_at}
use Rattle.engine_reading.proofs.Codes.{keyed, is_in, not_in, others}
use Rattle.engine_reading.proofs.command.Statement.{statement}
use Rattle.engine_reading.proofs.command.Tie as tie

abbrev g : ℕ → ℕ
g x = kind_at (0x400 + x)

abbrev keys : List ℕ
keys = 0 ∷ 1 ∷ 4 ∷ 5 ∷ 8 ∷ 17 ∷ 20 ∷ 21 ∷ 24 ∷ []

returns-in-0 : tie.Need-returns-in-0
unfolding messages within lookup kind_at
returns-in-0 c = keyed g 0 c.in-0.is refl

returns-in-1 : tie.Need-returns-in-1
unfolding messages within lookup kind_at
returns-in-1 c = keyed g 1 c.in-1.is refl

returns-in-4 : tie.Need-returns-in-4
unfolding messages within lookup kind_at
returns-in-4 c = keyed g 4 c.in-4.is refl

returns-in-5 : tie.Need-returns-in-5
unfolding messages within lookup kind_at
returns-in-5 c = keyed g 5 c.in-5.is refl

returns-in-8 : tie.Need-returns-in-8
unfolding messages within lookup kind_at
returns-in-8 c = keyed g 8 c.in-8.is refl

returns-in-17 : tie.Need-returns-in-17
unfolding messages within lookup kind_at
returns-in-17 c = keyed g 17 c.in-17.is refl

returns-in-20 : tie.Need-returns-in-20
unfolding messages within lookup kind_at
returns-in-20 c = keyed g 20 c.in-20.is refl

returns-in-21 : tie.Need-returns-in-21
unfolding messages within lookup kind_at
returns-in-21 c = keyed g 21 c.in-21.is refl

returns-in-24 : tie.Need-returns-in-24
unfolding messages within lookup kind_at
returns-in-24 c = keyed g 24 c.in-24.is refl

returns-in_default : tie.Need-returns-in_default
unfolding messages within lookup kind_at
returns-in_default c =
    let x = c.before.args.low in
    others g (λ y. is_in y keys) 32 refl x c.before.requires (not_in x keys (
      search rules,
      (
        search rules,
        (
          search rules,
          (
            search rules,
            (
              search rules,
              (
                search rules,
                (
                  search rules,
                  (
                    search rules,
                    (search rules, tt),
                  ),
                ),
              ),
            ),
          ),
        ),
      ),
    ))

pub command_spec : {M : Type 1} → statement M
command_spec =
    tie.close
    (tie.spec
    returns-in-0
    returns-in-1
    returns-in-4
    returns-in-5
    returns-in-8
    returns-in-17
    returns-in-20
    returns-in-21
    returns-in-24
    returns-in_default)
