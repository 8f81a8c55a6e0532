-- The bytes stored are those of the values that change, the frame low byte first.
use Rattle.std.proofs.Common.{rules, ℕ, ◌/◌, ◌%◌, refl, List, [], ◌∷◌, set}
use Rattle.device.specs.Change.{◌becomes◌, last, sent, replied}
use Rattle.record.specs.Record.{record_of}
use Rattle.engine_bytes.proofs.Stored.{stored_here}
use Rattle.engine_bytes.proofs.count.Goals as goal

pub returns : goal.returns
unfolding record_of
returns c =
    let f = c.args.frame in
    let s = c.args.sent in
    let n = c.args.replied in
    stored_here (λ (r : List ℕ). set (set (set (set r 14 (f % 256)) 15 (f / 256)) 13 s) 16 n)
    (last becomes f ∷ sent becomes s ∷ replied becomes n ∷ []) (λ d. refl) c.args.rec.now c.told-rec (search rules)
