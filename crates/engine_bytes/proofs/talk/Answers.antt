-- The bytes stored are those of the values that change.
use Rattle.std.proofs.Common.{rules, ℕ, refl, List, [], ◌∷◌, set}
use Rattle.device.specs.Change.{◌becomes◌, talker, noted, last, replied}
use Rattle.record.specs.Record.{record_of}
use Rattle.engine_bytes.proofs.Stored.{stored_here}
use Rattle.engine_bytes.proofs.talk.Goals as goal

pub returns : goal.returns
unfolding record_of
returns c =
    let t = c.args.talker in
    stored_here (λ (r : List ℕ). set (set (set (set (set r 5 t) 8 0) 14 0) 15 0) 16 0)
    (talker becomes t ∷ noted becomes 0 ∷ last becomes 0 ∷ replied becomes 0 ∷ []) (λ d. refl) c.args.rec.now c.told-rec (search rules)
