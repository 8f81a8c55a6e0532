-- The place decides whether every byte has a command, then the room; then a byte's command is stored, and RFC behind it.
use Rattle.std.proofs.Common.{◌≡◌, ◌+◌, ◌*◌, arith}
use Rattle.bus.proofs.Rows.{lengths}
use Rattle.bus.proofs.Loops.{starts, stored, command_at, rfc_at, no_command, no_frames, imports}
use Rattle.bus.proofs.import.import.Goals as goal

pub returns-then-place-row : goal.returns-then-place-row
returns-then-place-row c =
    no_command c.args.row.now c.args.frames.now c.byte_without-place.ensures c.if-place-row.true

pub returns-then-frames-row : goal.returns-then-frames-row
returns-then-frames-row c =
    no_frames c.args.row.now c.args.frames.now c.byte_without-place.ensures c.if-place-row.false c.if-frames-row.true

pub loop-i-init : goal.loop-i-init
loop-i-init c = starts (omega (arith, c.if-frames-row.false, lengths.of_import c.args.row.now))

pub loop-i-preserved : goal.loop-i-preserved
loop-i-preserved c =
    let row = c.args.row.now in
    let i = c.loop-i.i in
    let n = lengths.of_import row in
    let e : 2 * i + 1 + 1 ≡ 2 * (i + 1) = omega arith in
    rw (← e)
    (stored (stored c.loop-i.invariant (omega (arith, c.loop-i-test.true)) (command_at row i c.loop-i-test.true))
    (omega (arith, c.loop-i-test.true)) (rfc_at row i c.loop-i-test.true))

pub returns : goal.returns
returns c =
    imports c.args.row.now c.args.frames.now c.byte_without-place.ensures c.if-place-row.false c.loop-i.invariant
    (omega (arith, c.loop-i-test.false, lengths.of_import c.args.row.now))
