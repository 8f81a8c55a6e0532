-- Bytes with zeros behind them are zero past their length.
use Prim.Native.Nat.{ℕ, zero, suc, ◌+◌, ◌≤◌}
use mathlib.Core.Path.{◌≡◌, refl}
use mathlib.Core.Bool.{true}
use mathlib.Core.List.{List}
use native.Mathlib.Omega.{arith}
use lib.ListN.{length, drop, get_or-eq_default}
use lib.Seq.{drop-nil}
use Rattle.device.specs.PowerOn.{bytes_from}
use Rattle.record.specs.Record.{zeros}

past_zero : (bs : List ℕ) (k n : ℕ) → length bs ≤ k → zeros (bytes_from k n bs) ≡ true
unfolding zeros bytes_from
past_zero bs k zero h = refl
past_zero bs k (suc n) h = rw (get_or-eq_default bs 0 {n = k} h) (past_zero bs (suc k) n (omega arith))

from_zero : (bs : List ℕ) (k m n : ℕ) → length bs ≡ k + m → zeros (drop m (bytes_from k n bs)) ≡ true
unfolding zeros bytes_from
from_zero bs k m zero h = rw drop-nil
from_zero bs k zero (suc n) h = past_zero bs k (suc n) (omega arith)
from_zero bs k (suc m) (suc n) h = from_zero bs (suc k) m n (omega arith)

pub padded_zero : (bs : List ℕ) (n : ℕ) → zeros (drop (length bs) (bytes_from 0 n bs)) ≡ true
padded_zero bs n = from_zero bs 0 (length bs) n (omega arith)
