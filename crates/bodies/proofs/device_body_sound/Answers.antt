-- One part is judged, which is the body.
use mathlib.Core.Path.{◌∙◌}
use native.Mathlib.Omega.{arith}
use lib.ListN.{drop, length-drop}
use Rattle.record.specs.Record.{record_size}
use Rattle.record.specs.Sound.{sound_record}
use Rattle.area.proofs.Parts.{alone, rest_is}
use Rattle.saved.specs.Saved.{head_size}
use Rattle.bodies.proofs.device_body_sound.Goals as goal

pub returns : goal.returns
returns c =
    let r = c.args.record.now in
    rw (rest_is head_size r) at c.records_sound.ensures
    ∙ alone sound_record record_size (drop head_size r) (simp length-drop (omega arith))
