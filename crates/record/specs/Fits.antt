-- What the types of the code's device say, said of the numbers of the definitions; and the devices that a sound area
-- holds.
use Rattle.std.specs.Prelude.{ℕ, ◌<◌, ◌≡◌, true, List, length, get_or}
use Rattle.device.specs.Device.{most_id, most_data}
use Rattle.device.specs.declared.Device.{Device}
use Rattle.record.specs.Sound.{sound_device}

-- each number of a list is a byte
abbrev pub Bytes : List ℕ → Type 0
Bytes b = (i : ℕ) → get_or b i 0 < 256

-- each value is a byte, the last frame sent two of them, and the arrays have their lengths
pub record Fits (d : Device) : Type 0 where
  pub abilities : d.abilities < 256
  pub fixed : d.fixed < 256
  pub address : d.address < 256
  pub configured : d.configured < 256
  pub listener : d.listener < 256
  pub talker : d.talker < 256
  pub service : d.service < 256
  pub further : d.further < 256
  pub noted : d.noted < 256
  pub status : d.status < 256
  pub accessory : d.accessory < 256
  pub idlength : d.idlength < 256
  pub loadlength : d.loadlength < 256
  pub sent : d.sent < 256
  pub last : d.last < 65536
  pub replied : d.replied < 256
  pub remote : d.remote < 256
  pub enabled : d.enabled < 256
  pub choice : d.choice < 256
  pub fixedsecond : d.fixedsecond < 256
  pub second : d.second < 256
  pub assigned : d.assigned < 256
  pub pollstatus : d.pollstatus < 256
  pub id : Bytes d.id
  pub load : Bytes d.load
  pub idsize : length d.id ≡ most_id
  pub loadsize : length d.load ≡ most_data

pub record Good (d : Device) : Type 0 where
  pub fits : Fits d
  pub sound : sound_device d ≡ true
