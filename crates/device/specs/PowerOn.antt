-- A device at power-on, from its set-up item (01, The calls; 02, f and i): abilities, fixed address, accessory ID, ID
-- length, 8 ID bytes and, in longer items, the further abilities and the fixed second address, 0 where it has them not.
use Rattle.std.specs.Prelude.{ℕ, zero, suc, List, [], ◌∷◌, get_or, replicate}
use Rattle.device.specs.Device.{idle, no_service, LOCS, plain_last, most_id, most_data}
use Rattle.device.specs.declared.Device.{Device}

-- the n bytes of b from place k on, 0 past its end
unfoldable pub bytes_from : ℕ → ℕ → List ℕ → List ℕ
bytes_from k zero b = []
bytes_from k (suc n) b = get_or b k 0 ∷ bytes_from (suc k) n b

-- both present addresses are the fixed ones, all else zero but the item's values
unfoldable pub power_on : List ℕ → Device
power_on item =
    record {
      abilities = get_or item 0 0;
      fixed = get_or item 1 0;
      address = get_or item 1 0;
      configured = 0;
      listener = 0;
      talker = idle;
      service = no_service;
      further = get_or item 12 0;
      noted = 0;
      status = 0;
      accessory = get_or item 2 0;
      idlength = get_or item 3 0;
      loadlength = 0;
      sent = 0;
      last = 0;
      replied = 0;
      remote = LOCS;
      enabled = 0;
      choice = plain_last;
      fixedsecond = get_or item 13 0;
      second = get_or item 13 0;
      assigned = 0;
      pollstatus = 0;
      id = bytes_from 4 most_id item;
      load = replicate most_data 0;
    }
