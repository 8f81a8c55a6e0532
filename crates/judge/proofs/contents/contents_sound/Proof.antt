-- The header, the records and the links, each where the number of devices says.
use native.Mathlib.Numerals.{add-one}
use Rattle.area.specs.Sizes.{header_size, record_at}
use Rattle.area.specs.Loop.{count_in, sound}
use Rattle.area.proofs.Parts.{rest_is}
use borrow.Author.Rules.{rules}
use Rattle.judge.proofs.contents.contents_sound.Statement.{statement}
use Rattle.judge.proofs.contents.contents_sound.Tie as tie

returns : tie.Need-returns
unfolding sound
returns c = let a =
    c.args.area.now in
    simp (
      c.header_sound.ensures,
      c.records_sound.ensures,
      c.links_sound.ensures,
      rest_is header_size a,
      rest_is
          (record_at (count_in a)) a,
      add-one,
    )

pub contents_sound_spec : {M : Type 1} → statement M
contents_sound_spec =
    tie.close
    (tie.spec
    (λ c. search rules)
    (λ c. search rules)
    (λ c. search rules)
    (λ c. search rules)
    (λ c κs. search rules)
    (λ c. search rules)
    (λ c. search rules)
    (λ c. search rules)
    (λ c κs. search rules)
    (λ c. search rules)
    (λ c. search rules)
    (λ c. search rules)
    (λ c. search rules)
    (λ c κs. search rules)
    returns)
