-- The area is as long as its number of devices says, so record i is in it.
use native.Mathlib.Omega.{arith}
use Rattle.area.proofs.Areas.{sized}
use Rattle.area.proofs.lookup.record_start.Statement.{statement}
use Rattle.area.proofs.lookup.record_start.Tie as tie

mul_result : tie.Need-overflow_mul-result
mul_result c = omega (arith, sized c.args.area.now c.requires.judged, c.requires.there)

add_result : tie.Need-overflow_add-result
add_result c = omega (arith, sized c.args.area.now c.requires.judged, c.requires.there)

returns : tie.Need-returns
returns c = omega (arith, sized c.args.area.now c.requires.judged, c.requires.there)

pub record_start_spec : {M : Type 1} → statement M
record_start_spec =
    tie.close
    (tie.spec
    mul_result
    add_result
    returns)
