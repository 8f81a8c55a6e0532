-- A chunk's text stands within the buffer, and less is left behind it.
use Rattle.lister.proofs.Doing.{fits}
use Rattle.list_out.proofs.Ending.{falls}
use Rattle.list_out.proofs.rest.Goals as goal

pub write-requires : goal.write-requires
write-requires g c = fits c.step-chunk.ensures c.step-chunk.auto.out

pub loop-next-smaller : goal.loop-next-smaller
loop-next-smaller g c = falls c.args.input.now _ _ _ _ c.in-Line.is c.step-chunk.ensures.next
