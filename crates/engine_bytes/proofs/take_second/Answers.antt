-- The byte keeps its flag, and gets the address behind it.
use Rattle.std.proofs.Common.{rules, ℕ, ◌+◌, ◌*◌, ◌/◌, refl, List, [], ◌∷◌, get_or, set}
use Rattle.device.specs.Device.{received}
use Rattle.device.specs.Change.{◌becomes◌, second}
use Rattle.record.specs.Record.{device_of, record_of}
use Rattle.engine_bytes.proofs.Stored.{stored_here}
use Rattle.engine_bytes.proofs.take_second.Goals as goal

pub returns : goal.returns
unfolding record_of device_of
returns c =
    let b = c.args.rec.now in
    let x = get_or b 21 0 / received * received + c.args.address in
    stored_here (λ (r : List ℕ). set r 21 x) (second becomes x ∷ []) (λ d. refl) b c.told-rec (search rules)
