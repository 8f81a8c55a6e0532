-- A byte more is tested at each turn, and at the end none is left.
use Rattle.std.proofs.Common.{◌∙◌, sym}
use Rattle.engine_zeros.proofs.Stretch.{all_left, turned, none_left}
use Rattle.engine_zeros.proofs.zero_past.Goals as goal

pub loop-i-init : goal.loop-i-init
loop-i-init c = let a = c.args in all_left a.bytes.now a.from a.width a.past

pub loop-i-preserved : goal.loop-i-preserved
loop-i-preserved c =
    let a = c.args in
    turned a.bytes.now a.from a.width a.past c.loop-i.i c.loop-i.zero c.loop-i-test.true ∙ c.loop-i.invariant

pub returns : goal.returns
returns c =
    let a = c.args in
    sym (none_left a.bytes.now a.from a.width a.past c.loop-i.i c.loop-i.zero c.loop-i-test.false) ∙ c.loop-i.invariant
