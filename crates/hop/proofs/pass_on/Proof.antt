-- Three changes one after the other: the device, the link that it took from, and the next link.
use Prim.Native.Nat.{◌<◌}
use mathlib.Core.Path.{◌≡◌, ap, ◌∙◌}
use mathlib.Core.List.{tail}
use native.Mathlib.Omega.{arith}
use native.Mathlib.Numerals.{add-one}
use lib.ListN.{length-set}
use Rattle.frame.specs.Messages.{frames}
use Rattle.area.specs.Loop.{loop_of, link, Holds}
use Rattle.area.specs.Lookup.{room_of, set_device, remove}
use Rattle.area.proofs.Links.{some_frame}
use Rattle.area.proofs.Areas.{loop_good, sized}
use Rattle.calls.specs.Calls.{sent_by}
use Rattle.calls.proofs.Outcomes.{link_next}
use Rattle.calls.proofs.Kept.{sent_good}
use borrow.Author.Rules.{rules}
use Rattle.hop.proofs.pass_on.Statement.{statement}
use Rattle.hop.proofs.pass_on.Tie as tie

-- the frame that the device sends, and that it is one
frame_is : (c : tie.After-take_at-passed) →
    c.take_at-passed.result.frame ≡ (sent_by c.args.i c.args.frame (loop_of c.args.area.now)).frame
frame_is c = c.take_at-passed.ensures.0.frame

is_frame : (c : tie.After-take_at-passed) → c.take_at-passed.result.frame < frames
is_frame c =
    let a = c.args.area.now in
    rw (frame_is c) (sent_good (loop_of a) (loop_good a (λ i. (c.slice_known-1.given i).fits) c.requires.has.judged)
    c.args.i c.args.frame c.requires.oldest).1

-- the loop after the second change
held : (c : tie.After-remove_at) →
    let l = loop_of c.args.area.now in
    Holds c.remove_at.new.area
    (remove c.args.i (set_device c.args.i (sent_by c.args.i c.args.frame l).device l))
held c = rw c.take_at-passed.ensures.1.held at c.remove_at.ensures

remove_at-requires : tie.Need-remove_at-requires
remove_at-requires c κs =
    let h = c.take_at-passed.ensures.1 in (
      record { judged = h.judged; there = rw (h.held, length-set) (omega (arith, c.requires.has.there)) },
      rw h.held (some_frame (link (loop_of c.args.area.now) c.args.i) _ c.requires.oldest),
    )

add_add_at : tie.Need-overflow_add-i
add_add_at c =
    omega (arith, c.requires.has.there, sized c.args.area.now c.requires.has.judged)

add_at-requires : tie.Need-add_at-requires
add_at-requires c κs =
    let h = held c.before.before.before in
    let l = loop_of c.args.area.now in (
      record { judged = h.judged; there = rw (h.held, length-set) (omega (arith, c.requires.has.there)) },
      rw
          (h.held, add-one) (ap room_of (link_next c.args.i (tail (link l c.args.i))
          (set_device c.args.i (sent_by c.args.i c.args.frame l).device l)) ∙ c.requires.room),
      is_frame c.before.before.before.before.before.before.before,
    )

returns : tie.Need-returns
returns c =
    (c.take_at-passed.ensures.0, rw ((held c.before.before.before.before.before.before).held, frame_is c.before.before.before.before.before.before.before.before.before.before, add-one) at c.add_at.ensures)

pub pass_on_spec : {M : Type 1} → statement M
pass_on_spec =
    tie.close
    (tie.spec
    (λ c κs. search rules)
    remove_at-requires
    add_add_at
    add_at-requires
    (λ c. search rules)
    returns)
