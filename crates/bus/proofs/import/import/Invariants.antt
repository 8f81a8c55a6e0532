-- A command and RFC at a time what is written is the imported row so far.
use Rattle.std.proofs.Common.{◌*◌}
use Rattle.bus.specs.Rows.{imported}
use Rattle.bus.proofs.Loops.{Writing}
use Rattle.bus.proofs.import.import.Given as goal

abbrev pub invariant-loop-i : goal.invariant-loop-i
invariant-loop-i l = Writing (imported l.row) l.fn.frames (2 * l.i) l.frames
