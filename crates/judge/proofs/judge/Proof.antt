-- The two tests, in the order of their numbers.
use mathlib.Core.Path.{sym, ◌∙◌}
use borrow.Author.Tests.{not-true, not-false}
use Rattle.area.specs.Loop.{judge_with}
use Rattle.area.proofs.Areas.{is_shaped}
use borrow.Author.Rules.{rules}
use Rattle.judge.proofs.judge.Statement.{statement}
use Rattle.judge.proofs.judge.Tie as tie

returns-then-not-shape_right : tie.Need-returns-then-not-shape_right
unfolding judge_with
returns-then-not-shape_right c = simp (← c.shape_right.ensures, not-true c.shape_right.result c.if-not-shape_right.true-raw)

contents_sound-requires : tie.Need-contents_sound-requires
contents_sound-requires c κs = is_shaped _
    (sym c.shape_right.ensures ∙ not-false c.shape_right.result c.if-not-shape_right.false-raw)

returns-then-not-contents_sound : tie.Need-returns-then-not-contents_sound
unfolding judge_with
returns-then-not-contents_sound c = simp (
  ← c.shape_right.ensures,
  not-false c.shape_right.result c.if-not-shape_right.false-raw,
  ←
      c.contents_sound.ensures,
  not-true c.contents_sound.result c.if-not-contents_sound.true-raw,
)

returns : tie.Need-returns
unfolding judge_with
returns c = simp (
  ← c.shape_right.ensures,
  not-false c.shape_right.result c.if-not-shape_right.false-raw,
  ←
      c.contents_sound.ensures,
  not-false c.contents_sound.result c.if-not-contents_sound.false-raw,
)

pub judge_spec : {M : Type 1} → statement M
judge_spec =
    tie.close
    (tie.spec
    (λ c κs. search rules)
    returns-then-not-shape_right
    contents_sound-requires
    returns-then-not-contents_sound
    returns)
