-- A call in a record is a device's local call: it leaves each record as the device's call leaves the device.
use Rattle.std.specs.Prelude.{List, ℕ, Result}
use Rattle.device.specs.declared.Device.{Device}
use Rattle.record.specs.Record.{device_of}
use Rattle.record.specs.Fits.{Good}
use Rattle.record_local.specs.Local.{Called}
use Rattle.record_local.specs.InPlace.{InPlace}
use Rattle.refusal.specs.Refusal.{told}
use Rattle.refusal.specs.declared.Refusal.{Refusal}

-- a device that is good stays so
abbrev pub KeepsGood : (Device → Called) → Type 0
KeepsGood call = (d : Device) → Good d → Good (call d).device

-- of a record b the call may answer r and leave x
abbrev pub Makes : (Device → Called) → (List ℕ → Result Unit Refusal → List ℕ → Type 0) → Type 0
Makes call may =
    (b : List ℕ) (r : Result Unit Refusal) (x : List ℕ) → may b r x →
    InPlace b (call (device_of b)) (told r) x
