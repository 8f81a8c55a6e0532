-- A record's head is a list of bytes, so that each value of a state lands at its own place.
use mathlib.Core.Path.{refl}
use Rattle.record.specs.Record.{record_of}
use Rattle.state.specs.State.{WriteBack}

pub write_back : WriteBack
unfolding record_of
write_back d s = refl
