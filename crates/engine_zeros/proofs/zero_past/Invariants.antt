-- What was found zero so far, and what is left to test from byte i on, are zero just where all of it is.
use Rattle.std.proofs.Common.{◌≡◌, ◌&&◌, drop}
use Rattle.device.specs.PowerOn.{bytes_from}
use Rattle.record.specs.Record.{zeros}
use Rattle.engine_zeros.proofs.Stretch.{left}
use Rattle.engine_zeros.proofs.zero_past.Given as goal

abbrev pub invariant-loop-i : goal.invariant-loop-i
invariant-loop-i l =
    (l.zero && left l.bytes l.from l.width l.past l.i) ≡ zeros (drop l.past (bytes_from l.from l.width l.bytes))
