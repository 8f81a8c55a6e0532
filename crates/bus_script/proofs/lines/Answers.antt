-- A turn writes a frame's line behind those so far, and behind the last frame all are written.
use Rattle.std.proofs.Common.{arith}
use Rattle.bus_script.proofs.Written.{starts, ends_at, room_kept, line_more, all_lined}
use Rattle.bus_script.proofs.lines.Goals as goal

pub loop-frame-init : goal.loop-frame-init
loop-frame-init c = starts c.requires

pub script_line-at-requires : goal.script_line-at-requires
script_line-at-requires c =
    let l = c.loop-frame.invariant in omega (arith, ends_at l, room_kept l, l.fits, c.loop-frame-test.true)

pub loop-frame-preserved : goal.loop-frame-preserved
loop-frame-preserved c = line_more c.loop-frame.invariant c.loop-frame-test.true c.script_line-at.ensures

pub returns : goal.returns
returns c = all_lined c.loop-frame.invariant c.loop-frame-test.false
