-- A one moved up by the bit's number is that power of two, and each return follows from the tests on its way.
use Prim.Native.Nat.{ℕ, ◌*◌, ◌%◌, ◌^◌, ◌<◌}
use native.Mathlib.Nat.{one-mul, mod-eq_of_lt}
use native.Mathlib.Omega.{arith}
use mathlib.Core.Path.{◌≡◌}
use lib.Pow.{pow-lt}
use Rattle.device.specs.Poll.{answer}
use Rattle.device.proofs.Arms.{arms, when_eq, when_lt}
use Rattle.record.specs.Record.{device_of}
use Rattle.poll.proofs.answer.Goals as goal

moved : (x : ℕ) → (1 * 2 ^ (x % 8)) % 256 ≡ 2 ^ (x % 8)
moved x =
    let h : 2 ^ (x % 8) < 256 = pow-lt {i = x % 8} {j = 8} (omega arith) in
    rw (one-mul (2 ^ (x % 8))) (mod-eq_of_lt h)

pub returns-then-rec-state : goal.returns-then-rec-state
unfolding answer device_of
returns-then-rec-state c =
    when_lt _ _ c.if-state-gt-UNASSIGNED.true (when_eq _ _ c.if-rec-state.true (moved _))

pub returns-then-state-gt-UNASSIGNED : goal.returns-then-state-gt-UNASSIGNED
unfolding answer device_of
returns-then-state-gt-UNASSIGNED c = search arms

pub returns : goal.returns
unfolding answer device_of
returns c = search arms
