-- Each return follows from the tests on its way.
use Rattle.device.specs.Ready.{aad}
use Rattle.device.proofs.Arms.{arms}
use Rattle.ready.proofs.aad.Goals as goal

pub returns-then-has : goal.returns-then-has
unfolding aad
returns-then-has c = search (arms, c.sends.ensures, c.placed.ensures)

pub returns-then-state-eq0 : goal.returns-then-state-eq0
unfolding aad
returns-then-state-eq0 c = search (arms, c.sends-then-state-eq0.ensures)

pub returns : goal.returns
unfolding aad
returns c = search (arms, c.sends-2.ensures)
