-- An empty area has no byte 0, and byte 0 of any other says the number of devices.
use mathlib.Core.Path.{sym}
use native.Mathlib.Omega.{arith}
use Rattle.area.specs.Loop.{shaped_with}
use Rattle.area.proofs.Areas.{shaped_empty}
use borrow.Author.Rules.{rules}
use Rattle.judge.proofs.shape_right.Statement.{statement}
use Rattle.judge.proofs.shape_right.Tie as tie

returns-then-area-eq0 : tie.Need-returns-then-area-eq0
returns-then-area-eq0 c = sym (shaped_empty c.args.area.now c.if-area-eq0.true)

cast_n : tie.Need-overflow_cast-n
cast_n c = omega (arith, c.shared_slice_known-2-1.given 0)

area_size-requires : tie.Need-area_size-requires
area_size-requires c κs = omega (arith, c.shared_slice_known-2-1.given 0)

returns : tie.Need-returns
unfolding shaped_with
returns c = rw (c.is_count.ensures, c.area_size.ensures)

pub shape_right_spec : {M : Type 1} → statement M
shape_right_spec =
    tie.close
    (tie.spec
    returns-then-area-eq0
    (λ c. search rules)
    cast_n
    (λ c κs. search rules)
    area_size-requires
    returns)
