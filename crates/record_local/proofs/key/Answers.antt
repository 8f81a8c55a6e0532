-- In unlocked remote one byte is written, and else none.
use Rattle.std.proofs.Common.{rules, refl, sym, ap, ◌∙◌}
use Rattle.device.specs.Remote.{key}
use Rattle.device.proofs.Arms.{arms}
use Rattle.record.specs.Record.{device_of, record_of}
use Rattle.record.proofs.Laws.{record_back}
use Rattle.record_local.proofs.InPlace.{remote_written, left}
use Rattle.record_local.proofs.key.Goals as goal

pub returns-then-rec-eq-REMS : goal.returns-then-rec-eq-REMS
unfolding key device_of
returns-then-rec-eq-REMS c =
    left c.args.rec.now (key (device_of c.args.rec.now)) refl (remote_written c.args.rec.now c.told-rec (search rules) 0 ∙ ap record_of (search arms))

pub returns : goal.returns
unfolding key device_of
returns c =
    left c.args.rec.now (key (device_of c.args.rec.now)) refl (sym (record_back c.args.rec.now c.told-rec (search rules)) ∙ ap record_of (search arms))
