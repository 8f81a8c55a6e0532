-- The header's zeros and all records before the next are sound.
use Rattle.std.proofs.Common.{◌≡◌, drop}
use Rattle.record.specs.Sound.{sound_record}
use Rattle.area.specs.Parts.{all}
use Rattle.walk.specs.Walk.{sound_records}
use Rattle.engine_sound.proofs.sound.Given as goal

abbrev pub invariant-loop-rec : goal.invariant-loop-rec
invariant-loop-rec l = sound_records l.records ≡ all sound_record (drop l.rec-index l.each)
