-- Each byte keeps its low five bits, and gets the flag in front of them.
use Rattle.std.proofs.Common.{rules, ℕ, ◌+◌, ◌%◌, refl, List, [], ◌∷◌, get_or, set}
use Rattle.device.specs.Device.{received}
use Rattle.device.specs.Change.{◌becomes◌, fixedsecond, second}
use Rattle.record.specs.Record.{device_of, record_of}
use Rattle.engine_bytes.proofs.Stored.{stored_here}
use Rattle.engine_bytes.proofs.flag.Goals as goal

pub returns : goal.returns
unfolding record_of device_of
returns c =
    let b = c.args.rec.now in
    let x = get_or b 20 0 % received + c.args.listen in
    let y = get_or b 21 0 % received + c.args.talk in
    stored_here (λ (r : List ℕ). set (set r 20 x) 21 y) (fixedsecond becomes x ∷ second becomes y ∷ []) (λ d. refl) b
    c.told-rec (search rules)
