-- Device by device: what is left and written, and what the devices behind do, is what all devices do.
use Rattle.round.proofs.Hopping.{Hopping}
use Rattle.round.proofs.hops.Given as goal

abbrev pub invariant-loop-i : goal.invariant-loop-i
invariant-loop-i l = Hopping l.n l.fn.area l.fn.out l.i l.area l.at l.out
