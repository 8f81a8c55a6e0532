-- The place and the length decide whether the frames are pairs, then the room; then each pair's byte is stored.
use Rattle.std.proofs.Common.{◌∙◌, sym, arith}
use Rattle.bus.proofs.Rows.{lengths}
use Rattle.bus.proofs.Loops.{starts, stored, data_at, no_pair, no_bytes, exports}
use Rattle.bus.proofs.export.export.Goals as goal

pub returns-then-place-frames : goal.returns-then-place-frames
returns-then-place-frames c =
    no_pair c.args.frames.now c.args.row.now c.frame_without-place.ensures c.if-place-frames.true

pub returns-then-row-need : goal.returns-then-row-need
returns-then-row-need c =
    no_bytes c.args.frames.now c.args.row.now c.frame_without-place.ensures c.if-place-frames.false c.if-row-need.true

pub loop-i-init : goal.loop-i-init
loop-i-init c = starts (omega (arith, c.if-row-need.false, lengths.of_export c.args.frames.now))

pub loop-i-preserved : goal.loop-i-preserved
loop-i-preserved c =
    stored c.loop-i.invariant (omega (arith, c.loop-i-test.true, lengths.of_export c.args.frames.now))
    (data_at c.args.frames.now c.args.row.now c.frame_without-place.ensures c.if-place-frames.false c.loop-i.i
    c.loop-i-test.true
    ∙ sym c.data_bits.ensures)

pub returns : goal.returns
returns c =
    exports c.args.frames.now c.args.row.now c.frame_without-place.ensures c.if-place-frames.false c.loop-i.invariant
    (omega (arith, c.loop-i-test.false, lengths.of_export c.args.frames.now))
