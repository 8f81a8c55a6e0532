-- Any 64 bytes are the bytes of a device's record.
use Prim.Native.Nat.{ℕ}
use mathlib.Core.Path.{◌≡◌}
use mathlib.Core.List.{List}
use lib.ListN.{length}
use Rattle.record.specs.Fits.{Bytes}
use Rattle.record.specs.Record.{record_size}
use Rattle.record.specs.Written.{IsRecord}
use Rattle.record.proofs.Laws.{record_back}

pub record_is : (b : List ℕ) → length b ≡ record_size → Bytes b → IsRecord b
record_is b long small = record { long = long; whole = record_back b long small }
