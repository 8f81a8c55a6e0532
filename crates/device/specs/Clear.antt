-- Clear and trigger (02, d; 001, 2.10 and 2.11): the frame goes on, the instrument is told of it, and the device, all
-- that its record holds, stays as it was.
use Rattle.std.specs.Prelude.{ℕ, eqb}
use Rattle.device.specs.Choose.{choose}
use Rattle.device.specs.Reply.{sends}
use Rattle.device.specs.declared.Device.{Device}
use Rattle.device.specs.declared.Handed.{Handed}
use Rattle.device.specs.declared.Handed.TheVariants.{Clear, Trigger}
use Rattle.device.specs.Sent.{Sent}

-- the frame goes on, and this is reported
abbrev pub reports : Device → ℕ → Handed → Sent
reports d f event = record { device = d; frame = f; handed = event }

-- the same where the device is an addressed listener
unfoldable pub to_listener : Device → ℕ → Handed → Sent
to_listener d f event = choose (eqb d.listener 1) (reports d f event) (sends d f)

-- DCL: a clear at every device
abbrev pub dcl : Device → ℕ → Sent
dcl d f = reports d f Clear

-- SDC: a clear at an addressed listener
abbrev pub sdc : Device → ℕ → Sent
sdc d f = to_listener d f Clear

-- GET: a trigger at an addressed listener
abbrev pub get : Device → ℕ → Sent
get d f = to_listener d f Trigger
