-- Device by device, what is written, told and still to come make up the walk; the devices are those of sound records.
use Rattle.std.proofs.Common.{◌≡◌, ℕ, get_or, []}
use Rattle.frame.specs.Decoding.{decoded}
use Rattle.record.specs.Record.{device_of}
use Rattle.record.specs.Fits.{Good}
use Rattle.area.specs.Loop.{count_in}
use Rattle.walk.specs.Walk.{devices_in}
use Rattle.engine.proofs.Walking.{Walking}
use Rattle.engine.proofs.past_all.Given as goal

abbrev pub invariant-loop-i : goal.invariant-loop-i
invariant-loop-i l =
    record {
      count : l.n ≡ count_in l.fn.records;
      good : (k : ℕ) → Good (get_or (devices_in l.fn.records) k (device_of []));
      read : l.message ≡ decoded l.out;
      walking : Walking l.fn.records l.fn.told l.frame l.i l.records l.told l.out;
    }
