-- What a device does with a frame: the device after it, the frame that it sends, and what is handed to the instrument
-- behind it: nothing, a byte, a clear or a trigger.
use Rattle.std.specs.Prelude.{ℕ}
use Rattle.device.specs.declared.Device.{Device}
use Rattle.device.specs.declared.Handed.{Handed}

pub record Sent : Type 0 where
  pub device : Device
  pub frame : ℕ
  pub handed : Handed
