-- One part is judged, which is the body.
use mathlib.Core.Path.{◌∙◌}
use native.Mathlib.Omega.{arith}
use lib.ListN.{drop, length-drop}
use Rattle.area.specs.Sizes.{link_size}
use Rattle.area.specs.Link.{sound_link}
use Rattle.area.proofs.Parts.{alone, rest_is}
use Rattle.saved.specs.Saved.{head_size}
use Rattle.bodies.proofs.link_body_sound.Goals as goal

pub returns : goal.returns
returns c =
    let r = c.args.record.now in
    rw (rest_is head_size r) at c.links_sound.ensures
    ∙ alone sound_link link_size (drop head_size r) (simp length-drop (omega arith))
