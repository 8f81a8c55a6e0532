-- A line that is no frame is wrong; a frame goes round in the first bytes of the lent area.
use mathlib.Core.Path.{refl, sym, ◌∙◌}
use native.Mathlib.Omega.{arith}
use lib.ListN.{length}
use lib.Seq.{length-take-le}
use borrow.Author.Rules.{rules}
use Rattle.lister.proofs.Doing.{did, Ready, is_ready, line_wrong, line_round}
use Rattle.lister.proofs.list.line.Statement.{statement}
use Rattle.lister.proofs.list.line.Tie as tie

given : (s : tie.Start) → Ready s.args.number s.args.area.now (length s.args.out.now)
given s = is_ready s.args.number s.args.area.now (length s.args.out.now) s.requires.0

bad_line-requires : tie.Need-bad_line-requires
bad_line-requires c κs =
    let g = given c.before.before.before.before.before.before in
    (omega (arith, g.number), omega (arith, g.lent.buffer))

returns-in_default : tie.Need-returns-in_default
returns-in_default c =
    rw (line_wrong c.args.line.now c.args.at c.args.number c.args.area.now
    (sym c.frame_in.ensures ∙ c.in_default.is))
    (did c.bad_line.ensures c.last.ensures.0 c.last.ensures.1 refl)

bounds-area-0 : tie.Need-bounds-area-0
bounds-area-0 c =
    omega (arith, (given c.before.before.before.before.before.before).lent.area)

cast_area_size : tie.Need-overflow_cast-area
cast_area_size c = omega (arith, c.slice_known-3-1.given 0)

area_size-size-requires : tie.Need-area_size-size-requires
area_size-size-requires c κs = omega (arith, (given c.before.before.before.before.before.before).few)

-- the loop's bytes
part : tie.Need-slice_bounds-round-end
part c =
    let g = given c.before.before.before.before.before.before.before in
    omega (arith, c.area_size-size.ensures, g.few, g.lent.area)

round-written-requires : tie.Need-round-written-requires
round-written-requires c κs =
    let g = given c.before.before.before.before.before.before.before.before.before in
    (rw c.area_size-size.ensures g.judged, omega (arith, g.lent.buffer))

add_number : tie.Need-overflow_add-result-3
add_number c =
    omega (arith, (given c.before.before.before.before.before.before.before.before.before.before.before.before.before.before).number)

returns : tie.Need-returns
returns c =
    line_round c.args.line.now c.args.at c.args.number c.args.area.now
    (sym c.frame_in.ensures ∙ c.in-Some.is)
    c.area_size-size.ensures c.round-written.ensures refl refl

pub line_spec : {M : Type 1} → statement M
line_spec =
    tie.close
    (tie.spec
    (λ c κs. search rules)
    (λ c. search rules)
    (λ c. search rules)
    bad_line-requires
    (λ c κs. search rules)
    (λ c. search rules)
    returns-in_default
    bounds-area-0
    cast_area_size
    area_size-size-requires
    part
    (λ c. sym (length-take-le _ _ (part c.before)))
    round-written-requires
    (λ c. search rules)
    (λ c. search rules)
    add_number
    (λ c. search rules)
    (λ c. search rules)
    returns)
