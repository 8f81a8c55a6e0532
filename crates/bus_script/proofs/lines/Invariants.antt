-- What is written so far is the lines of the frames so far, four bytes each.
use Rattle.bus_script.proofs.Written.{Lined}
use Rattle.bus_script.proofs.lines.Given as goal

abbrev pub invariant-loop-frame : goal.invariant-loop-frame
invariant-loop-frame l = Lined l.frames l.fn.out l.frame-index l.at l.out
