-- Lists of bytes: written out, read from a place on, and put together.
use Prim.Native.Nat.{ℕ, zero, suc, ◌<◌}
use mathlib.Core.List.{List, [], ◌∷◌, ◌++◌}
use native.Mathlib.Omega.{arith}
use lib.ListN.{replicate}
use Rattle.device.specs.PowerOn.{bytes_from}
use Rattle.record.specs.Fits.{Bytes}

-- each number of a list that is written out is a byte: a fact a number
abbrev pub Small : List ℕ → Type 0
Small [] = Unit {0}
Small (x ∷ b) = (x < 256) × Small b

pub small_bytes : (b : List ℕ) → Small b → Bytes b
small_bytes [] s i = omega arith
small_bytes (x ∷ b) s zero = s.0
small_bytes (x ∷ b) s (suc i) = small_bytes b s.1 i

pub zeros_small : (n : ℕ) → Bytes (replicate n 0)
zeros_small zero i = omega arith
zeros_small (suc n) zero = omega arith
zeros_small (suc n) (suc i) = zeros_small n i

-- the bytes of a list of bytes are bytes
pub bytes_small : (b : List ℕ) (k n : ℕ) → Bytes b → Bytes (bytes_from k n b)
unfolding bytes_from
bytes_small b k zero h i = omega arith
bytes_small b k (suc n) h zero = h k
bytes_small b k (suc n) h (suc i) = bytes_small b (suc k) n h i

pub bytes_append : (a b : List ℕ) → Bytes a → Bytes b → Bytes (a ++ b)
bytes_append [] b h k i = k i
bytes_append (x ∷ a) b h k zero = h zero
bytes_append (x ∷ a) b h k (suc i) = bytes_append a b (λ j. h (suc j)) k i
