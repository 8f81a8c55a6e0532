-- What the list has makes a frame, so that the sum fits.
use Rattle.std.proofs.Common.{ℕ, ◌+◌, ◌*◌, ◌<◌, ◌≡◌, arith}
use Rattle.frame.specs.Messages.{frames, first_of}
use Rattle.frame.specs.Decoding.{offsets_of, c1s_of}
use Rattle.frame.proofs.Laws.{placed}
use Rattle.frame.proofs.encode.Goals as goal

below : (k o c first offsets c1s : ℕ) → first ≡ first_of k → offsets ≡ offsets_of k → c1s ≡ c1s_of k → o < offsets →
    c < c1s → first + o + 256 * c < frames
below k o c first offsets c1s e p q i j =
    omega (arith, (placed k o c (omega arith) (omega arith)).below)

pub overflow_add-result : goal.overflow_add-result
overflow_add-result c =
    omega
    (arith, below _ _ _ _ _ _ c.first.ensures c.offsets.ensures c.c1s.ensures c.if-offsets-offset.false c.if-c1s-c1.false)

pub overflow_add-result-2 : goal.overflow_add-result-2
overflow_add-result-2 c =
    omega
    (arith, below _ _ _ _ _ _ c.first.ensures c.offsets.ensures c.c1s.ensures c.if-offsets-offset.false c.if-c1s-c1.false)
