-- `frame::has_c1` meets its contract: its tests are the definition's.
use mathlib.Core.Path.{refl}
use Rattle.frame.specs.Decoding.{has_c1}
use Rattle.frame.proofs.has_c1.Statement.{statement}
use Rattle.frame.proofs.has_c1.Tie as tie

pub has_c1_spec : {M : Type 1} → statement M
unfolding has_c1
has_c1_spec = tie.close (tie.spec (λ c. refl))
