-- A device whose state of remote and local is moved by bits, as the plain engine does it.
use Rattle.std.specs.Prelude.{ℕ, cond, ltb}
use Rattle.std.specs.Int.Bits.{bit_and, bit_or}
use Rattle.device.specs.Change.{remoting}
use Rattle.device.specs.declared.Device.{Device}

-- some bits of a state, below 4, stay and some are set; another number stays
abbrev pub bits_of : (state kept set : ℕ) → ℕ
bits_of state kept set = cond (ltb state 4) (bit_or (bit_and state kept) set) state

abbrev pub bits_moved : Device → (kept set : ℕ) → Device
bits_moved d kept set = remoting d (bits_of d.remote kept set)
