-- The first record that is not sound decides, and where there is none all are.
use Rattle.std.proofs.Common.{◌∙◌, sym, ap}
use Rattle.record.specs.Sound.{sound_record}
use Rattle.area.specs.Parts.{all}
use Rattle.walk.specs.Walk.{sound_records}
use Rattle.engine_sound.proofs.Each.{passed, failed, none_left, records_are}
use Rattle.engine_sound.proofs.sound.Goals as goal

pub returns-then-not-zero_past : goal.returns-then-not-zero_past
unfolding sound_records
returns-then-not-zero_past c = rw (sym c.zero_past.ensures ∙ c.if-not-zero_past.true)

pub loop-rec-init : goal.loop-rec-init
unfolding sound_records
loop-rec-init c = rw (sym c.zero_past.ensures ∙ c.if-not-zero_past.false)
    (ap (all sound_record) (records_are c.args.records.now _ c.requires c.as_chunks.ensures.front))

pub returns-then-not-record_sound : goal.returns-then-not-record_sound
returns-then-not-record_sound c =
    sym (c.loop-rec.invariant ∙ failed _ c.loop-rec.rec-index c.loop-rec-test.true
    (sym c.record_sound.ensures ∙ c.if-not-record_sound.true))

pub loop-rec-preserved : goal.loop-rec-preserved
loop-rec-preserved c =
    c.loop-rec.invariant ∙ passed _ c.loop-rec.rec-index c.loop-rec-test.true
    (sym c.record_sound.ensures ∙ c.if-not-record_sound.false)

pub returns : goal.returns
returns c = sym (c.loop-rec.invariant ∙ none_left _ c.loop-rec.rec-index c.loop-rec-test.false)
