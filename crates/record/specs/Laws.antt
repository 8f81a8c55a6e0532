-- The laws of records, as statements: reading and writing undo each other, soundness is that of the device read, and
-- what is written is bytes. Their proofs are in proofs/Laws.antt.
use Rattle.std.specs.Prelude.{ℕ, ◌*◌, ◌≤◌, ◌<◌, ◌≡◌, true, false, List, [], ◌∷◌, length}
use Rattle.device.specs.Device.{auto_address, parallel_poll, extended, LOCS, RWLS, no_address, half_assigned, received}
use Rattle.device.specs.Device.{has, has_further}
use Rattle.device.specs.PowerOn.{power_on}
use Rattle.device.specs.Change.{address, configured, fixedsecond, second, ◌becomes◌, changed, remoting, enabling}
use Rattle.device.specs.Change.{assigning, pollstatusing}
use Rattle.device.specs.Poll.{unassigned}
use Rattle.device.specs.declared.Device.{Device}
use Rattle.record.specs.Record.{record_size, device_of, record_of}
use Rattle.record.specs.Sound.{configured_able, variant_right, is_assignment, poll_right, sound_device, sound_record}
use Rattle.record.specs.Sound.{allowed}
use Rattle.record.specs.Fits.{Bytes, Fits, Good}

-- A record is 64 bytes
abbrev pub RecordWide : Type 0
RecordWide = (d : Device) → length (record_of d) ≡ record_size

-- Reading a written device gives it back
abbrev pub ReadWritten : Type 0
ReadWritten = (d : Device) → Fits d → device_of (record_of d) ≡ d

-- Writing what was read gives the record back: each of its bytes is a value's
abbrev pub WriteRead : Type 0
WriteRead = (b : List ℕ) → length b ≡ record_size → Bytes b → record_of (device_of b) ≡ b

-- A sound device has a sound record, and a sound record holds a sound device
abbrev pub WriteSound : Type 0
WriteSound = (d : Device) → Fits d → sound_device d ≡ true → sound_record (record_of d) ≡ true

abbrev pub ReadSound : Type 0
ReadSound = (b : List ℕ) → Bytes b → sound_record b ≡ true → Good (device_of b)

-- Every state of remote and local is sound with either flag, as both are at zero: nothing else asks for them (02, d)
abbrev pub AnyRemote : Type 0
AnyRemote =
    (d : Device) (state flag : ℕ) → state ≤ RWLS → flag ≤ 1 →
    sound_device (enabling (remoting d state) flag) ≡ sound_device (enabling (remoting d LOCS) 0)

-- With the poll ability every sense and bit, or none, is sound with either status, as none is with status 0 (02, f);
abbrev pub AnyPoll : Type 0
AnyPoll =
    (d : Device) (x s : ℕ) → has_further d parallel_poll ≡ true → is_assignment x ≡ true → s ≤ 1 →
    sound_device (pollstatusing (assigning d x) s) ≡ sound_device (pollstatusing (assigning d unassigned) 0)

-- without it none are sound but zeros, which ask for nothing, as in every earlier record
pub record NoPoll : Type 0 where
  pub zeros_only : (d : Device) → sound_device d ≡ true → has_further d parallel_poll ≡ false →
      (d.assigned ≡ unassigned) × (d.pollstatus ≡ 0)
  pub zeros_right : (d : Device) → d.further ≡ 0 → d.assigned ≡ unassigned → d.pollstatus ≡ 0 → poll_right d ≡ true

-- A simple device has no second address and is not half assigned, and where it has not, as in every earlier record, the
-- clause asks for what it asked before; an extended one has no ability 32 (02, i).
pub record Variants : Type 0 where
  pub simple : (d : Device) → sound_device d ≡ true → has_further d extended ≡ false →
      (d.fixedsecond ≡ 0) × (d.second ≡ 0) × (d.configured ≤ 1)
  pub as_before : (d : Device) → has_further d extended ≡ false → d.fixedsecond ≡ 0 → d.second ≡ 0 →
      d.configured ≤ 1 → variant_right d ≡ configured_able d
  pub no_auto_address : (d : Device) → sound_device d ≡ true → has_further d extended ≡ true → has d auto_address ≡ false

-- d half assigned, with the address a, and x and y as bytes 20 and 21
abbrev pub half_with : Device → (a x y : ℕ) → Device
half_with d a x y =
    changed d (address becomes a ∷ configured becomes half_assigned ∷ fixedsecond becomes x ∷ second becomes y ∷ [])

-- A half assigned device is sound with any addresses in range, 31 among them, and any flags, as with zeros.
abbrev pub AnyHalf : Type 0
AnyHalf =
    (d : Device) (a x y : ℕ) → has_further d extended ≡ true → a ≤ no_address → x < 2 * received → y < 2 * received →
    sound_device (half_with d a x y) ≡ sound_device (half_with d 0 0 0)

-- The record of a device that a sound area holds is bytes
abbrev pub GoodBytes : Type 0
GoodBytes = (d : Device) → Good d → Bytes (record_of d)

-- Power-on is sound where the item is allowed
abbrev pub PowerOnSound : Type 0
PowerOnSound = (item : List ℕ) → Bytes item → allowed item ≡ true → Good (power_on item)
