-- The first chunk's text stands within the buffer.
use Rattle.lister.proofs.Doing.{fits}
use Rattle.list_out.proofs.print.Goals as goal

pub write-requires : goal.write-requires
write-requires g c = fits c.start-chunk.ensures c.start-chunk.auto.out
