-- The first i records are asked, the others are what they were.
use Rattle.std.proofs.Common.{◌≡◌, ◌*◌, drop}
use Rattle.record.specs.Record.{record_size}
use Rattle.saved.specs.Older.{asked}
use Rattle.area.proofs.Made.{Made}
use Rattle.older.proofs.ask.Given as goal

abbrev pub invariant-loop-i : goal.invariant-loop-i
invariant-loop-i l =
    Made asked record_size record_size l.n l.fn.records l.i l.records
    × (drop (record_size * l.i) l.records ≡ drop (record_size * l.i) l.fn.records)
