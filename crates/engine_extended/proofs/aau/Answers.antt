-- The changes are the rule's, one after the other.
use Rattle.std.proofs.Common.{◌%◌, ap, ◌∙◌, get_or}
use Rattle.device.specs.Device.{received}
use Rattle.device.specs.Change.{placed, seconding}
use Rattle.device.specs.declared.Device.{Device}
use Rattle.record.specs.Record.{device_of}
use Rattle.engine_extended.proofs.aau.Goals as goal

pub returns : goal.returns
unfolding device_of
returns c =
    let b = c.args.rec.now in
    let x = get_or b 20 0 % received in
    let e = c.take_second.ensures ∙ ap (λ (d : Device). seconding d x) c.flag.ensures in
    c.place.ensures ∙ ap (λ (d : Device). placed d (get_or b 1 0) 0) e
