-- Both are the same tests, slot by slot.
use Rattle.area.specs.Link.{sound_link}
use Rattle.area.proofs.Links.{and-true}
use borrow.Author.Rules.{rules}
use Rattle.judge.proofs.contents.frames_sound.Statement.{statement}
use Rattle.judge.proofs.contents.frames_sound.Tie as tie

returns : tie.Need-returns
unfolding sound_link
returns c = simp (
  c.slot_sound.ensures,
  c.slot_sound-2.ensures,
  c.slot_sound-3.ensures,
  c.slot_sound-4.ensures,
  c.word_at.ensures,
  c.word_at-2.ensures,
  c.word_at-3.ensures,
  c.word_at-4.ensures,
  and-true,
)

pub frames_sound_spec : {M : Type 1} → statement M
frames_sound_spec =
    tie.close
    (tie.spec
    (λ c. search rules)
    (λ c. search rules)
    (λ c. search rules)
    (λ c κs. search rules)
    (λ c κs. search rules)
    (λ c κs. search rules)
    (λ c κs. search rules)
    (λ c κs. search rules)
    (λ c κs. search rules)
    (λ c κs. search rules)
    (λ c κs. search rules)
    returns)
