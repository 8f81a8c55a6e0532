-- The area holds the first i devices and blank ones.
use Rattle.area.specs.Loop.{Holds}
use Rattle.calls.proofs.Powered.{at_item}
use Rattle.set_up.proofs.power_on.Given as goal

abbrev pub invariant-loop-i : goal.invariant-loop-i
invariant-loop-i l = Holds l.area (at_item l.n l.items l.i)
