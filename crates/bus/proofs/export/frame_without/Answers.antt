-- Pair by pair: the place is that of the frames that are left, behind the pairs that are right; then none is left, or
-- one.
use Rattle.std.proofs.Common.{◌≡◌, ◌∙◌, sym, ◌+◌, ◌*◌, ◌/◌, length, arith}
use Rattle.bus.proofs.Loops.{frame_stops, frame_alone, frame_breaks, frame_goes, frame_ends}
use Rattle.bus.proofs.export.frame_without.Goals as goal

pub returns-then-not-has_byte : goal.returns-then-not-has_byte
returns-then-not-has_byte c =
    sym
    (frame_stops c.args.frames.now (2 * c.loop-k.k) c.loop-k.invariant (omega (arith, c.loop-k-test.true))
    (sym c.has_byte.ensures ∙ c.if-not-has_byte.true))

pub returns-then-frames-k-ne-RFC : goal.returns-then-frames-k-ne-RFC
returns-then-frames-k-ne-RFC c =
    sym
    (frame_breaks c.args.frames.now (2 * c.loop-k.k) c.loop-k.invariant (omega (arith, c.loop-k-test.true))
    (sym c.has_byte.ensures ∙ c.if-not-has_byte.false) (omega (arith, c.loop-k-test.true)) c.if-frames-k-ne-RFC.true)

pub loop-k-preserved : goal.loop-k-preserved
loop-k-preserved c =
    let k = c.loop-k.k in
    let n : 2 * k + 2 ≡ 2 * (k + 1) = omega arith in
    rw (← n)
    (frame_goes c.args.frames.now (2 * k) c.loop-k.invariant (omega (arith, c.loop-k-test.true))
    (sym c.has_byte.ensures ∙ c.if-not-has_byte.false) (omega (arith, c.loop-k-test.true)) c.if-frames-k-ne-RFC.false)

pub returns-then-frames-eq0 : goal.returns-then-frames-eq0
returns-then-frames-eq0 c =
    let e = frame_ends c.args.frames.now (2 * c.loop-k.k) c.loop-k.invariant (omega arith) in omega (arith, e)

pub returns-then-not-has_byte-2 : goal.returns-then-not-has_byte-2
returns-then-not-has_byte-2 c =
    let fs = c.args.frames.now in
    let k : c.loop-k.k ≡ length fs / 2 = omega arith in
    sym
    (frame_stops fs (2 * (length fs / 2)) (rw k at c.loop-k.invariant) (omega arith)
    (sym c.has_byte-2.ensures ∙ c.if-not-has_byte-2.true))

pub returns : goal.returns
returns c =
    let fs = c.args.frames.now in
    let k : c.loop-k.k ≡ length fs / 2 = omega arith in
    sym
    (frame_alone fs (2 * (length fs / 2)) (rw k at c.loop-k.invariant) (omega arith)
    (sym c.has_byte-2.ensures ∙ c.if-not-has_byte-2.false) (omega arith))
