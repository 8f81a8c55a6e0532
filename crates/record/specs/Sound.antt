-- When a record is sound: the clauses of 01's "Sound means" on a record, in its order, with the values of 02, d, f, h
-- and i; a set-up item is judged by the same clauses. That frames are below 2,048 area says of links.
use Rattle.std.specs.Prelude.{ℕ, ◌+◌, ◌*◌, List, Bool, not, cond, ◌&&◌, ◌||◌, eqb, ltb, leb, get_or, drop}
use Rattle.device.specs.Device.{listen, send_data, status, device_id, accessory_id, auto_address, unaddress, service_request}
use Rattle.device.specs.Device.{addressed, sending_data, sending_status, sending_device_id, sending_accessory_id, no_service}
use Rattle.device.specs.Device.{polled, parallel_poll, extended, RWLS, is_choice, no_address, half_assigned, received}
use Rattle.device.specs.Device.{most_id, most_data, has, has_further, talks, fixed_second, present_second, sending}
use Rattle.device.specs.Poll.{assignment, unassigned}
use Rattle.device.specs.PowerOn.{power_on}
use Rattle.device.specs.declared.Device.{Device}
use Rattle.record.specs.Record.{device_of, zeros}

-- the first only with the second
abbrev pub only : Bool → Bool → Bool
only a b = not a || b

-- those ranges: addresses 0-31, configured 0-2, listener 0/1, talker 0-5, service 0-2, further abilities 0-3, NRD seen
-- 0/1, lengths 0-8 and 0-32; and remote and local 0-3, remote enable 0/1, the choice 0/1
abbrev pub in_range : Device → Bool
in_range d =
    leb d.fixed no_address &&
    (leb d.address no_address &&
    (leb d.configured half_assigned &&
    (leb d.listener 1 &&
    (leb d.talker sending_accessory_id &&
    (leb d.service polled &&
    (leb d.further (parallel_poll + extended) &&
    (leb d.noted 1 &&
    (leb d.idlength most_id &&
    (leb d.loadlength most_data &&
    (leb d.remote RWLS &&
    (leb d.enabled 1 &&
    is_choice d.choice)))))))))))

-- ID and data are zero past their length
abbrev pub zero_past : Device → Bool
zero_past d = zeros (drop d.idlength d.id) && zeros (drop d.loadlength d.load)

-- 128 only with 4
abbrev pub service_with_status : Device → Bool
service_with_status d = only (has d service_request) (has d status)

-- 64 only with 1 and at least one of 2, 4, 8, 16
abbrev pub unaddress_with_both : Device → Bool
unaddress_with_both d = only (has d unaddress) (has d listen && talks d)

-- unconfigured has address now equal to fixed
abbrev pub unconfigured_fixed : Device → Bool
unconfigured_fixed d = only (eqb d.configured 0) (eqb d.address d.fixed)

-- configured only with 32 and an address 0-30
abbrev pub configured_able : Device → Bool
configured_able d = only (eqb d.configured 1) (has d auto_address && ltb d.address no_address)

-- a simple device (02, i): that, configured 0/1, and no second address
abbrev pub simple_right : Device → Bool
simple_right d =
    configured_able d &&
    (leb d.configured 1 &&
    (eqb d.fixedsecond 0 &&
    eqb d.second 0))

-- an extended one: unconfigured has its second address equal to the fixed one too,
abbrev pub unconfigured_second : Device → Bool
unconfigured_second d = only (eqb d.configured 0) (eqb (present_second d) (fixed_second d))

-- configured both addresses 0-30, and half assigned any;
abbrev pub configured_both : Device → Bool
configured_both d = only (eqb d.configured 1) (ltb d.address no_address && ltb (present_second d) no_address)

-- no 32; second addresses 0-31, with their flags below 64
abbrev pub extended_right : Device → Bool
extended_right d =
    not (has d auto_address) &&
    (ltb d.fixedsecond (2 * received) &&
    (ltb d.second (2 * received) &&
    (unconfigured_second d &&
    configured_both d)))

-- each device as its variant asks
abbrev pub variant_right : Device → Bool
variant_right d = cond (has_further d extended) (extended_right d) (simple_right d)

-- listener, service and sending states only with their ability
abbrev pub listener_able : Device → Bool
listener_able d = only (eqb d.listener 1) (has d listen)

abbrev pub service_able : Device → Bool
service_able d = only (ltb no_service d.service) (has d service_request)

abbrev pub sending_able : Device → Bool
sending_able d =
    only (eqb d.talker sending_data) (has d send_data) &&
    (only (eqb d.talker sending_status) (has d status) &&
    (only (eqb d.talker sending_device_id) (has d device_id) &&
    only (eqb d.talker sending_accessory_id) (has d accessory_id)))

-- talker 1 with some of 2, 4, 8, 16
abbrev pub addressed_able : Device → Bool
addressed_able d = only (eqb d.talker addressed) (talks d)

-- data length above 0 only with 2
abbrev pub data_able : Device → Bool
data_able d = only (ltb 0 d.loadlength) (has d send_data)

-- sent at most length, at least 1 in talker 2
abbrev pub sent_within : Device → Bool
sent_within d = leb d.sent d.loadlength && only (eqb d.talker sending_data) (leb 1 d.sent)

-- byte 16 is 1 in states 3 and 5, 1 to ID length in 4, else 0
abbrev pub replied_right : Device → Bool
replied_right d =
    only (eqb d.talker sending_status) (eqb d.replied 1) &&
    (only (eqb d.talker sending_accessory_id) (eqb d.replied 1) &&
    (only (eqb d.talker sending_device_id) (leb 1 d.replied && leb d.replied d.idlength) &&
    only (leb d.talker sending_data) (eqb d.replied 0)))

-- bytes 8, 14, 15 zero outside states 2-5
abbrev pub quiet_outside : Device → Bool
quiet_outside d = only (not (sending d)) (eqb d.noted 0 && eqb d.last 0)

-- the last frame below 1,024
abbrev pub last_below : Device → Bool
last_below d = ltb d.last 0x400

-- sense and bit: none, or 16 plus PPE's low four bits (01, Kept for later parts; 02, f)
abbrev pub is_assignment : ℕ → Bool
is_assignment x = eqb x unassigned || (leb (assignment 0) x && leb x (assignment 15))

-- that, and poll status 0/1; both zero without the ability
abbrev pub poll_right : Device → Bool
poll_right d =
    is_assignment d.assigned &&
    (leb d.pollstatus 1 &&
    only (not (has_further d parallel_poll)) (eqb d.assigned unassigned && eqb d.pollstatus 0))

-- ---- groups of these clauses that are judged together

-- on abilities
abbrev pub abilities_allowed : Device → Bool
abilities_allowed d = service_with_status d && unaddress_with_both d

-- on addresses
abbrev pub address_right : Device → Bool
address_right d = unconfigured_fixed d && variant_right d

-- on a talker and its data
abbrev pub talker_right : Device → Bool
talker_right d =
    sending_able d &&
    (addressed_able d && (data_able d && (sent_within d && (replied_right d && (quiet_outside d && last_below d)))))

-- ---- a device is sound: all of the clauses
unfoldable pub sound_device : Device → Bool
sound_device d =
    in_range d &&
    (zero_past d &&
    (service_with_status d &&
    (unaddress_with_both d &&
    (unconfigured_fixed d &&
    (variant_right d &&
    (listener_able d &&
    (service_able d &&
    (sending_able d &&
    (addressed_able d &&
    (data_able d &&
    (sent_within d &&
    (replied_right d &&
    (quiet_outside d &&
    (last_below d &&
    poll_right d))))))))))))))

-- a record is sound: its device is, whose values are all its bytes
unfoldable pub sound_record : List ℕ → Bool
sound_record b = sound_device (device_of b)

-- a set-up item is allowed: its second address is 0-31, and its device at power-on is sound
unfoldable pub allowed : List ℕ → Bool
allowed item = leb (get_or item 13 0) no_address && sound_device (power_on item)
