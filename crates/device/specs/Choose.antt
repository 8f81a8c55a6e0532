-- The choice between two values by a test. It stays shut in proofs, where the laws of proofs/Arms.antt say what it
-- gives.
use Rattle.std.specs.Prelude.{Bool, true, false}

unfoldable pub choose : {A : Type 0} → Bool → A → A → A
choose true x y = x
choose false x y = y
