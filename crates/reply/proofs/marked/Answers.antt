-- At each return, what its tests found is the C1 that the definition sets.
use Prim.Native.Nat.{ℕ}
use mathlib.Core.Path.{◌≡◌}
use native.Mathlib.Omega.{arith}
use borrow.Author.Tests.{eq-eqb, ne_eqb}
use Rattle.frame.specs.Decoding.{frame_of}
use Rattle.frame.specs.declared.Message.{Message}
use Rattle.device.specs.Choose.{choose}
use Rattle.device.specs.Device.{asking}
use Rattle.device.specs.Reply.{with_c1, marked}
use Rattle.device.specs.declared.Device.{Device}
use Rattle.reply.proofs.marked.Goals as goal

asks : (d : Device) (m : Message) (x : ℕ) → d.service ≡ asking → x ≡ frame_of (with_c1 m) → x ≡ marked d m
unfolding marked choose
asks d m x s e = rw (eq-eqb d.service asking s) e

quiet : (d : Device) (m : Message) (x : ℕ) → (d.service ≡ asking → ⊥) → x ≡ frame_of m → x ≡ marked d m
unfolding marked choose
quiet d m x s e = rw (ne_eqb d.service asking s) e

pub returns-then-c1-eq1 : goal.returns-then-c1-eq1
returns-then-c1-eq1 c d m e q = asks _ m _ c.if-state-eq-ASKING.true (omega arith)

pub returns-then-state-eq-ASKING : goal.returns-then-state-eq-ASKING
returns-then-state-eq-ASKING c d m e q = asks _ m _ c.if-state-eq-ASKING.true (omega arith)

pub returns : goal.returns
returns c d m e q = quiet _ m _ c.if-state-eq-ASKING.false e
