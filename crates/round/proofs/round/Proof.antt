-- Put, hops and take are the calls of the definition, and the frame line stands behind the hand lines.
use mathlib.Core.Path.{◌∙◌}
use native.Mathlib.Omega.{arith}
use borrow.Author.Rules.{rules}
use Rattle.area.specs.Loop.{loop_of, size}
use Rattle.round.proofs.Held.{Area, area_held, judged, put_held}
use Rattle.round.proofs.Hopping.{round_area_lem, round_text_lem}
use Rattle.round.proofs.round.Statement.{statement}
use Rattle.round.proofs.round.Tie as tie

-- the lent area is a sound loop's
area : (c : tie.After-slice_known-1) → Area (size (loop_of c.args.area.now)) c.args.area.now
area c = area_held c.args.area.now (λ i. (c.slice_known-1.given i).fits) c.requires.0

hops-at-requires : tie.Need-hops-at-requires
hops-at-requires c κs = (
  rw c.put.ensures.1 (judged (put_held c.args.frame (area c.before.before.before.before.before.before.before))),
  omega (arith, c.requires.1),
)

frame_line-requires : tie.Need-frame_line-requires
frame_line-requires c κs =
    omega (arith, c.hops-at.ensures.room, c.hops-at.auto)

same_length : tie.Need-shape_of-area
same_length c =
    c.take-taken.auto.area ∙ c.hops-at.auto.area ∙ c.put.auto.area

returns : tie.Need-returns
returns c =
    let frame = c.args.frame in
    let put = c.put.ensures.1 in (
      round_area_lem frame (area c.before.before.before.before.before.before.before.before.before.before.before.before.before.before.before.before.before.before.before.before) put c.hops-at.ensures c.take-taken.ensures,
      round_text_lem frame (area c.before.before.before.before.before.before.before.before.before.before.before.before.before.before.before.before.before.before.before.before) put c.hops-at.ensures c.take-taken.ensures c.frame_line.ensures,
    )

pub round_spec : {M : Type 1} → statement M
round_spec =
    tie.close
    (tie.spec
    (λ c κs. search rules)
    hops-at-requires
    (λ c κs. search rules)
    frame_line-requires
    same_length
    (λ c. search rules)
    returns)
