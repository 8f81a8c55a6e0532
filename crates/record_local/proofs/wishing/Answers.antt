-- Each return follows from the tests on its way.
use Rattle.std.proofs.Common.{rules, sym, ap, ◌∙◌}
use Rattle.device.proofs.Arms.{arms}
use Rattle.record.specs.Record.{device_of, record_of}
use Rattle.record.proofs.Laws.{record_back}
use Rattle.record_local.specs.Local.{wishing}
use Rattle.record_local.proofs.InPlace.{service_written}
use Rattle.record_local.proofs.wishing.Goals as goal

pub returns-then-wish-eq0 : goal.returns-then-wish-eq0
unfolding wishing
returns-then-wish-eq0 c = service_written c.args.rec.now c.told-rec (search rules) 0 ∙ ap record_of (search arms)

pub returns-then-rec-eq-NO_SERVICE : goal.returns-then-rec-eq-NO_SERVICE
unfolding wishing device_of
returns-then-rec-eq-NO_SERVICE c = service_written c.args.rec.now c.told-rec (search rules) 1 ∙ ap record_of (search arms)

pub returns : goal.returns
unfolding wishing device_of
returns c = sym (record_back c.args.rec.now c.told-rec (search rules)) ∙ ap record_of (search arms)
