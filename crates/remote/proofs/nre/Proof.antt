-- `remote::nre` meets its contract: one change after the other.
use mathlib.Core.Path.{ap, ◌∙◌}
use borrow.Author.Rules.{rules}
use Rattle.device.specs.Change.{enabling}
use Rattle.device.specs.declared.Device.{Device}
use Rattle.remote.proofs.nre.Statement.{statement}
use Rattle.remote.proofs.nre.Tie as tie

returns : tie.Need-returns
returns c d = c.enabling.ensures d ∙ ap (λ (x : Device). enabling x 0) (c.remoting.ensures d)

pub nre_spec : {M : Type 1} → statement M
nre_spec = tie.close (tie.spec (λ c κs. search rules) (λ c κs. search rules) returns)
