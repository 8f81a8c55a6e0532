-- The bits go out with the answer among them.
use Rattle.engine_data.proofs.identify.Goals as goal

pub returns : goal.returns
returns c = rw (c.marked.ensures, c.answer-bits.ensures)
