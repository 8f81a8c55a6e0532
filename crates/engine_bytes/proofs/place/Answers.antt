-- The bytes stored are those of the values that change.
use Rattle.std.proofs.Common.{rules, ℕ, refl, List, [], ◌∷◌, set}
use Rattle.device.specs.Change.{◌becomes◌, address, configured}
use Rattle.record.specs.Record.{record_of}
use Rattle.engine_bytes.proofs.Stored.{stored_here}
use Rattle.engine_bytes.proofs.place.Goals as goal

pub returns : goal.returns
unfolding record_of
returns c =
    let a = c.args.address in
    let x = c.args.configured in
    stored_here (λ (r : List ℕ). set (set r 2 a) 3 x) (address becomes a ∷ configured becomes x ∷ []) (λ d. refl)
    c.args.rec.now c.told-rec (search rules)
