-- The constant holds the powers of two, and each return follows from the tests on its way.
use Rattle.std.proofs.Common.{ℕ, ◌^◌, ◌≡◌, ◌≤◌, ◌<◌, arith}
use Rattle.frame.proofs.Table.{entry}
use Rattle.device.specs.Poll.{answer}
use Rattle.device.proofs.Arms.{arms, when_eq, when_lt, unless_lt}
use Rattle.record.specs.Record.{device_of}
use Rattle.engine_poll.proofs.answer.Goals as goal

none : (x : ℕ) → x ≡ 0 → x ≤ 0
none x e = omega arith

some : (x : ℕ) → (x ≡ 0 → ⊥) → 0 < x
some x h = omega arith

pub returns-then-told-eq0 : goal.returns-then-told-eq0
unfolding device_of answer
returns-then-told-eq0 c = unless_lt _ _ (none _ c.if-told-eq0.true) (search arms)

pub returns-then-rec-told : goal.returns-then-rec-told
unfolding device_of answer
returns-then-rec-told c = when_lt _ _ (some _ c.if-told-eq0.false) (search arms)

pub returns : goal.returns
unfolding device_of answer
returns c =
    when_lt _ _ (some _ c.if-told-eq0.false)
    (when_eq _ _ c.if-rec-told.false (entry (λ (k : ℕ). 2 ^ k) 8 _ (omega arith)))
