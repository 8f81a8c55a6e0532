-- `remote::moved` meets its contract: the state becomes what `moves` gives.
use Prim.Native.Nat.{ℕ}
use mathlib.Core.Path.{ap, ◌∙◌}
use borrow.Author.Rules.{rules}
use Rattle.device.specs.Change.{remoting}
use Rattle.state.specs.State.{with}
use Rattle.remote.proofs.moved.Statement.{statement}
use Rattle.remote.proofs.moved.Tie as tie

returns : tie.Need-returns
returns c d =
    c.remoting.ensures d ∙ ap (λ (x : ℕ). remoting (with d c.args.state) x) c.moves-next.ensures

pub moved_spec : {M : Type 1} → statement M
moved_spec = tie.close (tie.spec (λ c κs. search rules) (λ c κs. search rules) returns)
