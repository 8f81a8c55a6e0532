-- What is left of the input falls with each chunk.
use Rattle.std.proofs.Common.{length}
use Rattle.list_out.proofs.Ending.{left}
use Rattle.list_out.proofs.rest.Given as goal

abbrev pub decreases-loop-next : goal.decreases-loop-next
decreases-loop-next g l = left (length l.input) l.next
