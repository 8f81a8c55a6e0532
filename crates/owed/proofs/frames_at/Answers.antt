-- Room is told behind so many frames; a full link holds four.
use Rattle.area.specs.Loop.{loop_of, link}
use Rattle.owed.proofs.Links.{known, frames_told}
use Rattle.owed.proofs.frames_at.Goals as goal

pub returns : goal.returns
returns c =
    let links = known c.args.area.now (λ i. (c.type_inv.area i).fits) c.requires.judged in
    let told = frames_told (link (loop_of c.args.area.now) c.args.j) (links.four c.args.j) in cc (c.unwrap_or.ensures)
