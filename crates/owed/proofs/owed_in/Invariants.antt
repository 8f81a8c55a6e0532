-- The hops summed and those that the links from link j on owe are all.
use Rattle.std.proofs.Common.{◌≡◌, ◌+◌, drop}
use Rattle.area.specs.Loop.{loop_of}
use Rattle.order.specs.Owed.{owed}
use Rattle.owed.proofs.owed_in.Given as goal

abbrev pub invariant-loop-j : goal.invariant-loop-j
invariant-loop-j l =
    let qs = (loop_of l.area).links in
    l.hops + owed (drop l.j qs) ≡ owed qs
