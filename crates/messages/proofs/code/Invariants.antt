-- The bits of a part of a row are a frame's too.
use Rattle.std.proofs.Common.{◌<◌}
use Rattle.frame.specs.Messages.{frames}
use Rattle.messages.proofs.code.Given as goal

abbrev pub invariant-loop-digit : goal.invariant-loop-digit
invariant-loop-digit l = l.bits < frames
