-- Each of the places that it takes is that of one value.
use Rattle.std.proofs.Common.{ℕ, List, [], ◌∷◌, set, arith, rules}
use Rattle.device.specs.Change.{◌becomes◌}
use Rattle.engine_bytes.proofs.Stored.{stored_here, inside, single}
use Rattle.engine_bytes.proofs.store.Goals as goal

pub bounds-rec-place : goal.bounds-rec-place
bounds-rec-place c = omega (arith, inside c.args.place c.requires)

pub returns : goal.returns
returns c =
    let p = c.args.place in
    let x = c.args.value in
    stored_here (λ (r : List ℕ). set r p x) (p becomes x ∷ []) (single p x c.requires) c.args.rec.now c.told-rec (search rules)
