-- `remote::moves` meets its contract: each return follows from the tests on its way.
use Rattle.device.specs.Remote.{moves}
use Rattle.device.proofs.Arms.{arms}
use Rattle.remote.proofs.moves.Statement.{statement}
use Rattle.remote.proofs.moves.Tie as tie

pub moves_spec : {M : Type 1} → statement M
unfolding moves
moves_spec = tie.close (tie.spec (λ c. search arms) (λ c. search arms) (λ c. search arms))
