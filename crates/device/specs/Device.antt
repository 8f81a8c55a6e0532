-- The numbers that 01's table of the record names, and a device's abilities.
use Rattle.std.specs.Prelude.{ℕ, ◌%◌, Bool, not, ◌||◌, eqb, ltb, leb}
use Rattle.std.specs.Int.Bits.{bit_and}
use Rattle.device.specs.declared.Device.{Device}

-- abilities
abbrev pub listen : ℕ
listen = 1

abbrev pub send_data : ℕ
send_data = 2

abbrev pub status : ℕ
status = 4

abbrev pub device_id : ℕ
device_id = 8

abbrev pub accessory_id : ℕ
accessory_id = 16

abbrev pub auto_address : ℕ
auto_address = 32

abbrev pub unaddress : ℕ
unaddress = 64

abbrev pub service_request : ℕ
service_request = 128

-- further abilities, those of byte 7 (02, f and i)
abbrev pub parallel_poll : ℕ
parallel_poll = 1

abbrev pub extended : ℕ
extended = 2

-- talker states
abbrev pub idle : ℕ
idle = 0

abbrev pub addressed : ℕ
addressed = 1

abbrev pub sending_data : ℕ
sending_data = 2

abbrev pub sending_status : ℕ
sending_status = 3

abbrev pub sending_device_id : ℕ
sending_device_id = 4

abbrev pub sending_accessory_id : ℕ
sending_accessory_id = 5

-- service states
abbrev pub no_service : ℕ
no_service = 0

abbrev pub asking : ℕ
asking = 1

abbrev pub polled : ℕ
polled = 2

-- the choice of a load: its last byte goes out as DAB, or as END (02, h)
abbrev pub plain_last : ℕ
plain_last = 0

abbrev pub end_last : ℕ
end_last = 1

abbrev pub is_choice : ℕ → Bool
is_choice e = leb e end_last

-- local and remote, and each of them locked, by 001's names (2.17; 02, d)
abbrev pub LOCS : ℕ
LOCS = 0

abbrev pub REMS : ℕ
REMS = 1

abbrev pub LWLS : ℕ
LWLS = 2

abbrev pub RWLS : ℕ
RWLS = 3

-- the fixed address of a device that has none
abbrev pub no_address : ℕ
no_address = 31

-- an extended device that has its second address and waits for its primary: byte 3 (02, i)
abbrev pub half_assigned : ℕ
half_assigned = 2

-- a second address is the low five bits of byte 20, the fixed one, or of byte 21, the present one; to byte 20 this is
-- added once the listen primary was received, to byte 21 once the talk primary was (01, Kept for later parts)
abbrev pub received : ℕ
received = 32

-- the most bytes of an ID, and of data
abbrev pub most_id : ℕ
most_id = 8

abbrev pub most_data : ℕ
most_data = 32

-- the device has the ability
abbrev pub has : Device → ℕ → Bool
has d ability = not (eqb (bit_and d.abilities ability) 0)

-- it has the further ability
abbrev pub has_further : Device → ℕ → Bool
has_further d ability = not (eqb (bit_and d.further ability) 0)

-- it has at least one of 2, 4, 8, 16
abbrev pub talks : Device → Bool
talks d = has d send_data || (has d status || (has d device_id || has d accessory_id))

-- its second addresses
abbrev pub fixed_second : Device → ℕ
fixed_second d = d.fixedsecond % received

abbrev pub present_second : Device → ℕ
present_second d = d.second % received

-- its listen primary was received, or its talk primary
abbrev pub listen_primary : Device → Bool
listen_primary d = leb received d.fixedsecond

abbrev pub talk_primary : Device → Bool
talk_primary d = leb received d.second

-- it is in one of the talker states 2 to 5
abbrev pub sending : Device → Bool
sending d = ltb addressed d.talker
