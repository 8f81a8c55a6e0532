-- A device's record of 64 bytes (01, The lent area): the device in it, and the bytes of a device.
use Rattle.std.specs.Prelude.{ℕ, suc, ◌+◌, ◌*◌, ◌/◌, ◌%◌, List, [], ◌∷◌, ◌++◌, Bool, true, ◌&&◌, eqb, get_or}
use Rattle.device.specs.Device.{most_id, most_data}
use Rattle.device.specs.PowerOn.{bytes_from}
use Rattle.device.specs.declared.Device.{Device}

-- bytes of a record
abbrev pub record_size : ℕ
record_size = 64

-- the little-endian number at a place
abbrev pub word : ℕ → List ℕ → ℕ
word at b = get_or b at 0 + 256 * get_or b (suc at) 0

-- the device that a record holds
unfoldable pub device_of : List ℕ → Device
device_of b =
    record {
      abilities = get_or b 0 0;
      fixed = get_or b 1 0;
      address = get_or b 2 0;
      configured = get_or b 3 0;
      listener = get_or b 4 0;
      talker = get_or b 5 0;
      service = get_or b 6 0;
      further = get_or b 7 0;
      noted = get_or b 8 0;
      status = get_or b 9 0;
      accessory = get_or b 10 0;
      idlength = get_or b 11 0;
      loadlength = get_or b 12 0;
      sent = get_or b 13 0;
      last = word 14 b;
      replied = get_or b 16 0;
      remote = get_or b 17 0;
      enabled = get_or b 18 0;
      choice = get_or b 19 0;
      fixedsecond = get_or b 20 0;
      second = get_or b 21 0;
      assigned = get_or b 22 0;
      pollstatus = get_or b 23 0;
      id = bytes_from 24 most_id b;
      load = bytes_from 32 most_data b;
    }

-- bytes 0 to 23 of a device's record
abbrev pub head_of : Device → List ℕ
head_of d =
    d.abilities ∷ d.fixed ∷ d.address ∷ d.configured ∷ d.listener ∷ d.talker ∷ d.service ∷ d.further ∷
    d.noted ∷ d.status ∷ d.accessory ∷ d.idlength ∷ d.loadlength ∷ d.sent ∷ d.last % 256 ∷ d.last / 256 ∷
    d.replied ∷ d.remote ∷ d.enabled ∷ d.choice ∷ d.fixedsecond ∷ d.second ∷ d.assigned ∷
    d.pollstatus ∷
    []

-- all its bytes: ID and data stand behind
unfoldable pub record_of : Device → List ℕ
record_of d = head_of d ++ (bytes_from 0 most_id d.id ++ bytes_from 0 most_data d.load)

-- each byte is zero
unfoldable pub zeros : List ℕ → Bool
zeros [] = true
zeros (x ∷ xs) = eqb x 0 && zeros xs
