-- Byte 0 of an area without a refusal is its number of devices.
use native.Mathlib.Omega.{arith}
use Rattle.area.proofs.Areas.{sized}
use Rattle.area.proofs.lookup.devices_in.Statement.{statement}
use Rattle.area.proofs.lookup.devices_in.Tie as tie

bounds-area-0 : tie.Need-bounds-area-0
bounds-area-0 c = omega (arith, sized c.args.area.now c.requires)

cast_result : tie.Need-overflow_cast-result
cast_result c = omega (arith, sized c.args.area.now c.requires)

returns : tie.Need-returns
returns c = omega (arith, sized c.args.area.now c.requires)

pub devices_in_spec : {M : Type 1} → statement M
devices_in_spec =
    tie.close
    (tie.spec
    bounds-area-0
    cast_result
    returns)
