-- A byte of a stretch of a list: the list's byte further on, and 0 past the stretch.
use Prim.Native.Nat.{ℕ, zero, suc, ◌+◌, ◌≤◌, ◌<◌}
use mathlib.Core.Path.{◌≡◌}
use mathlib.Core.List.{List}
use native.Mathlib.Nat.{le_of_suc-le-suc, not-suc-le-zero}
use native.Mathlib.Omega.{arith}
use lib.ListN.{get_or}
use Rattle.device.specs.PowerOn.{bytes_from}
use Rattle.device.proofs.Bytes.{past, bytes_wide}

pub place : (b : List ℕ) (k n i : ℕ) → i < n → get_or b (k + i) 0 ≡ get_or (bytes_from k n b) i 0
unfolding bytes_from
place b k zero i h = absurd (not-suc-le-zero h)
place b k (suc n) zero h = let e : k + 0 ≡ k = omega arith in rw e
place b k (suc n) (suc i) h =
    let e : k + suc i ≡ suc k + i = omega arith in rw e (place b (suc k) n i (le_of_suc-le-suc h))

pub no_place : (b : List ℕ) (k n i : ℕ) → n ≤ i → 0 ≡ get_or (bytes_from k n b) i 0
no_place b k n i h = past (bytes_from k n b) i n (bytes_wide k n b) h
