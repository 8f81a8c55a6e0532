-- Byte by byte what is written is the exported row so far.
use Rattle.bus.specs.Rows.{exported}
use Rattle.bus.proofs.Loops.{Writing}
use Rattle.bus.proofs.export.export.Given as goal

abbrev pub invariant-loop-i : goal.invariant-loop-i
invariant-loop-i l = Writing (exported l.frames) l.fn.row l.i l.row
