-- Each return follows from the tests on its way.
use Rattle.device.specs.Commands.{tad}
use Rattle.device.proofs.Arms.{arms}
use Rattle.commands.proofs.tad.Goals as goal

pub returns-then-has : goal.returns-then-has
unfolding tad
returns-then-has c = search (arms, c.roles.ensures)

pub returns-then-talks : goal.returns-then-talks
unfolding tad
returns-then-talks c = search (arms, c.talking.ensures)

pub returns-then-address-state : goal.returns-then-address-state
unfolding tad
returns-then-address-state c = search (arms, c.talking-then-address-state.ensures)

pub returns : goal.returns
unfolding tad
returns c = search (arms, c.talking-2.ensures)
