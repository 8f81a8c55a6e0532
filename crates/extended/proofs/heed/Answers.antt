-- The flags are cleared where the device is extended and the frame a command.
use mathlib.Core.Path.{sym, ap, ◌∙◌}
use Rattle.device.specs.Extended.{command_kind}
use Rattle.record.proofs.Whole.{record_is}
use Rattle.record.specs.Record.{device_of, record_of}
use Rattle.extended.proofs.InPlace.{stays}
use Rattle.extended.proofs.Owned.{heeds, heeds_none, simple_heeds}
use Rattle.extended.proofs.heed.Goals as goal

pub returns-then-kind : goal.returns-then-kind
returns-then-kind c =
    c.flag.ensures
    ∙ ap record_of (heeds (device_of c.args.rec.now) _ (sym c.has_further.ensures ∙ c.if-has_further.true)
    (ap command_kind (sym (c.number-kind.ensures ∙ c.kind_of.ensures)) ∙ c.if-kind.true))

pub returns-then-has_further : goal.returns-then-has_further
returns-then-has_further c =
    let b = c.args.rec.now in
    stays b (record_is b c.told-rec c.fits-rec)
    ∙ ap record_of (heeds_none (device_of b) _ (sym c.has_further.ensures ∙ c.if-has_further.true)
    (ap command_kind (sym (c.number-kind.ensures ∙ c.kind_of.ensures)) ∙ c.if-kind.false))

pub returns : goal.returns
returns c =
    let b = c.args.rec.now in
    stays b (record_is b c.told-rec c.fits-rec)
    ∙ ap record_of (simple_heeds (device_of b) _ (sym c.has_further.ensures ∙ c.if-has_further.false))
