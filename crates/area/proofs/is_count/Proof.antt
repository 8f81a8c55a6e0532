-- The two tests are the definition's, with its limit.
use mathlib.Core.Path.{refl}
use Rattle.area.proofs.is_count.Statement.{statement}
use Rattle.area.proofs.is_count.Tie as tie

returns : tie.Need-returns
returns c = refl

pub is_count_spec : {M : Type 1} → statement M
is_count_spec = tie.close (tie.spec returns)
