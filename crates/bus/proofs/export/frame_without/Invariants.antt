-- All frames before a pair stand in pairs.
use Rattle.std.proofs.Common.{◌≡◌, ◌+◌, ◌*◌, drop}
use Rattle.bus.specs.Rows.{frame_without}
use Rattle.bus.proofs.export.frame_without.Given as goal

abbrev pub invariant-loop-k : goal.invariant-loop-k
invariant-loop-k l = frame_without l.frames ≡ 2 * l.k + frame_without (drop (2 * l.k) l.frames)
