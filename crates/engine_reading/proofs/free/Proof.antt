-- `engine_reading::free` meets its contract: each kind is looked up, and the others leave none free.
use borrow.Author.Rules.{rules}
use Prim.Native.Nat.{ℕ}
use mathlib.Core.Path.{refl}
use mathlib.Core.List.{List, [], ◌∷◌}
use Rattle.frame.specs.Messages.{kinds, messages, codes_in, codes_of}
use Rattle.frame.specs.Decoding.{has_c1}
use Rattle.engine_reading.specs.Reading.{free_bits}
use Rattle.engine_reading.proofs.Codes.{keyed, is_in, not_in, others}
use Rattle.engine_reading.proofs.free.Statement.{statement}
use Rattle.engine_reading.proofs.free.Tie as tie

abbrev keys : List ℕ
keys = 1 ∷ 2 ∷ 42 ∷ 12 ∷ 14 ∷ 16 ∷ 23 ∷ 24 ∷ 34 ∷ 36 ∷ 38 ∷ 40 ∷ 17 ∷ []

returns-in-1 : tie.Need-returns-in-1
unfolding messages codes_in codes_of has_c1 free_bits
returns-in-1 c = keyed free_bits 1 c.in-1.is refl

returns-in-2 : tie.Need-returns-in-2
unfolding messages codes_in codes_of has_c1 free_bits
returns-in-2 c = keyed free_bits 2 c.in-2.is refl

returns-in-42 : tie.Need-returns-in-42
unfolding messages codes_in codes_of has_c1 free_bits
returns-in-42 c = keyed free_bits 42 c.in-42.is refl

returns-in-12 : tie.Need-returns-in-12
unfolding messages codes_in codes_of has_c1 free_bits
returns-in-12 c = keyed free_bits 12 c.in-12.is refl

returns-in-14 : tie.Need-returns-in-14
unfolding messages codes_in codes_of has_c1 free_bits
returns-in-14 c = keyed free_bits 14 c.in-14.is refl

returns-in-16 : tie.Need-returns-in-16
unfolding messages codes_in codes_of has_c1 free_bits
returns-in-16 c = keyed free_bits 16 c.in-16.is refl

returns-in-23 : tie.Need-returns-in-23
unfolding messages codes_in codes_of has_c1 free_bits
returns-in-23 c = keyed free_bits 23 c.in-23.is refl

returns-in-24 : tie.Need-returns-in-24
unfolding messages codes_in codes_of has_c1 free_bits
returns-in-24 c = keyed free_bits 24 c.in-24.is refl

returns-in-34 : tie.Need-returns-in-34
unfolding messages codes_in codes_of has_c1 free_bits
returns-in-34 c = keyed free_bits 34 c.in-34.is refl

returns-in-36 : tie.Need-returns-in-36
unfolding messages codes_in codes_of has_c1 free_bits
returns-in-36 c = keyed free_bits 36 c.in-36.is refl

returns-in-38 : tie.Need-returns-in-38
unfolding messages codes_in codes_of has_c1 free_bits
returns-in-38 c = keyed free_bits 38 c.in-38.is refl

returns-in-40 : tie.Need-returns-in-40
unfolding messages codes_in codes_of has_c1 free_bits
returns-in-40 c = keyed free_bits 40 c.in-40.is refl

returns-in-17 : tie.Need-returns-in-17
unfolding messages codes_in codes_of has_c1 free_bits
returns-in-17 c = keyed free_bits 17 c.in-17.is refl

returns-in_default : tie.Need-returns-in_default
unfolding messages codes_in codes_of has_c1 free_bits
returns-in_default c =
    let k = c.before.args.kind in
    others free_bits (λ x. is_in x keys) kinds refl k c.before.requires (not_in k keys (
      search rules,
      (
        search rules,
        (
          search rules,
          (
            search rules,
            (
              search rules,
              (
                search rules,
                (
                  search rules,
                  (
                    search rules,
                    (
                      search rules,
                      (
                        search rules,
                        (
                          search rules,
                          (
                            search rules,
                            (
                              search rules,
                              tt,
                            ),
                          ),
                        ),
                      ),
                    ),
                  ),
                ),
              ),
            ),
          ),
        ),
      ),
    ))

pub free_spec : {M : Type 1} → statement M
free_spec =
    tie.close
    (tie.spec
    returns-in-1
    returns-in-2
    returns-in-42
    returns-in-12
    returns-in-14
    returns-in-16
    returns-in-23
    returns-in-24
    returns-in-34
    returns-in-36
    returns-in-38
    returns-in-40
    returns-in-17
    returns-in_default)
