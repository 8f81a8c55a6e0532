-- `engine_reading::grouped` meets its contract: each group is looked up, and the other groups are of no kind.
use borrow.Author.Rules.{rules}
use Prim.Native.Nat.{ℕ, ◌+◌, ◌-◌, ◌/◌}
use mathlib.Core.Path.{◌≡◌, refl, ap, ◌∙◌}
use mathlib.Core.Bool.{cond}
use mathlib.Core.List.{List, [], ◌∷◌}
use native.Mathlib.Omega.{arith}
use lib.Dec.{eqb, ltb}
use Rattle.frame.specs.Messages.{messages, within, lookup, kind_at}
use Rattle.engine_reading.proofs.Codes.{is_in, not_in, others, in_group}
use Rattle.engine_reading.proofs.grouped.Statement.{statement}
use Rattle.engine_reading.proofs.grouped.Tie as tie

abbrev keys : List ℕ
keys = 32 ∷ 33 ∷ 34 ∷ 35 ∷ 36 ∷ 37 ∷ 38 ∷ 40 ∷ 42 ∷ 43 ∷ 44 ∷ 45 ∷ 46 ∷ 47 ∷ []

returns-in-32 : tie.Need-returns-in-32
returns-in-32 c =
    let m = c.before in
    let f = m.before.args.frame in
    c.command.ensures ∙ ap kind_at (omega (arith, m.in-32.is))

returns-in-33 : tie.Need-returns-in-33
unfolding messages within lookup kind_at
returns-in-33 c =
    let m = c.before in
    c.address.ensures ∙ in_group 33 (λ x. cond (eqb x 31) 13 12) refl m.before.args.frame m.in-33.is

returns-in-34 : tie.Need-returns-in-34
unfolding messages within lookup kind_at
returns-in-34 c =
    let m = c.before in
    c.address-in-34.ensures ∙ in_group 34 (λ x. cond (eqb x 31) 15 14) refl m.before.args.frame m.in-34.is

returns-in-35 : tie.Need-returns-in-35
unfolding messages within lookup kind_at
returns-in-35 c =
    let m = c.before in
    c.address-in-35.ensures ∙ in_group 35 (λ x. cond (eqb x 31) 0 16) refl m.before.args.frame m.in-35.is

returns-in-36 : tie.Need-returns-in-36
returns-in-36 c =
    let m = c.before in
    let f = m.before.args.frame in
    c.later_command.ensures ∙ ap kind_at (omega (arith, m.in-36.is))

returns-in-37 : tie.Need-returns-in-37
unfolding messages within lookup kind_at
returns-in-37 c = in_group 37 (λ x. 23) refl c.before.args.frame c.in-37.is

returns-in-38 : tie.Need-returns-in-38
unfolding messages within lookup kind_at
returns-in-38 c = in_group 38 (λ x. 24) refl c.before.args.frame c.in-38.is

returns-in-40 : tie.Need-returns-in-40
unfolding messages within lookup kind_at
returns-in-40 c =
    let m = c.before in
    c.row.ensures ∙ in_group 40 (λ x. cond (ltb x 1) (25 + x) 0) refl m.before.args.frame m.in-40.is

returns-in-42 : tie.Need-returns-in-42
unfolding messages within lookup kind_at
returns-in-42 c =
    let m = c.before in
    c.row-in-42.ensures ∙ in_group 42 (λ x. cond (ltb x 3) (26 + x) 0) refl m.before.args.frame m.in-42.is

returns-in-43 : tie.Need-returns-in-43
unfolding messages within lookup kind_at
returns-in-43 c =
    let m = c.before in
    c.row-in-43.ensures ∙ in_group 43 (λ x. cond (ltb x 5) (29 + x) 0) refl m.before.args.frame m.in-43.is

returns-in-44 : tie.Need-returns-in-44
unfolding messages within lookup kind_at
returns-in-44 c =
    let m = c.before in
    c.address-in-44.ensures ∙ in_group 44 (λ x. cond (eqb x 31) 35 34) refl m.before.args.frame m.in-44.is

returns-in-45 : tie.Need-returns-in-45
unfolding messages within lookup kind_at
returns-in-45 c =
    let m = c.before in
    c.address-in-45.ensures ∙ in_group 45 (λ x. cond (eqb x 31) 37 36) refl m.before.args.frame m.in-45.is

returns-in-46 : tie.Need-returns-in-46
unfolding messages within lookup kind_at
returns-in-46 c =
    let m = c.before in
    c.address-in-46.ensures ∙ in_group 46 (λ x. cond (eqb x 31) 39 38) refl m.before.args.frame m.in-46.is

returns-in-47 : tie.Need-returns-in-47
unfolding messages within lookup kind_at
returns-in-47 c =
    let m = c.before in
    c.address-in-47.ensures ∙ in_group 47 (λ x. cond (eqb x 31) 41 40) refl m.before.args.frame m.in-47.is

returns-in_default : tie.Need-returns-in_default
unfolding messages within lookup kind_at
returns-in_default c =
    let f = c.before.args.frame in
    let p = c.before.requires in
    let e : 0x400 + (f - 0x400) ≡ f = omega (arith, p) in
    let g : (f - 0x400) / 32 + 32 ≡ f / 32 = omega (arith, p) in
    others (λ x. kind_at (0x400 + x)) (λ x. is_in (x / 32 + 32) keys) 512 refl (f - 0x400) (omega (arith, p))
    (rw g (not_in (f / 32) keys (
      search rules,
      (
        search rules,
        (
          search rules,
          (
            search rules,
            (
              search rules,
              (
                search rules,
                (
                  search rules,
                  (
                    search rules,
                    (
                      search rules,
                      (
                        search rules,
                        (
                          search rules,
                          (search rules, (search rules, (search rules, tt))),
                        ),
                      ),
                    ),
                  ),
                ),
              ),
            ),
          ),
        ),
      ),
    ))) ∙ ap kind_at e

pub grouped_spec : {M : Type 1} → statement M
grouped_spec =
    tie.close
    (tie.spec
    (λ c. search rules)
    (λ c κs. search rules)
    (λ c κs. search rules)
    (λ c κs. search rules)
    (λ c κs. search rules)
    (λ c κs. search rules)
    (λ c κs. search rules)
    (λ c κs. search rules)
    (λ c κs. search rules)
    (λ c κs. search rules)
    (λ c κs. search rules)
    (λ c κs. search rules)
    (λ c κs. search rules)
    returns-in-32
    returns-in-33
    returns-in-34
    returns-in-35
    returns-in-36
    returns-in-37
    returns-in-38
    returns-in-40
    returns-in-42
    returns-in-43
    returns-in-44
    returns-in-45
    returns-in-46
    returns-in-47
    returns-in_default)
