-- What a device in a record did with a frame: the device now in the record, with what went out of it and was handed.
use Rattle.std.specs.Prelude.{ℕ, List}
use Rattle.device.specs.Sent.{Sent}
use Rattle.record.specs.Record.{device_of}
use Rattle.engine_data.specs.declared.Passed.{Passed}

abbrev pub sent : List ℕ → Passed → Sent
sent b p = record { device = device_of b; frame = p.frame; handed = p.handed }
