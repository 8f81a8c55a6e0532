-- A device with some of its values changed: each change names what is new, and all else stays.
use Rattle.std.specs.Prelude.{ℕ, ◌+◌, ◌*◌, ◌/◌, cond, List, [], ◌∷◌, eqb, length}
use Rattle.device.specs.Device.{received, most_data, fixed_second, present_second}
use Rattle.device.specs.PowerOn.{bytes_from}
use Rattle.device.specs.declared.Device.{Device}

-- the values that can change, each named by its place in the record (01, The lent area)
abbrev pub address : ℕ
address = 2

abbrev pub configured : ℕ
configured = 3

abbrev pub listener : ℕ
listener = 4

abbrev pub talker : ℕ
talker = 5

abbrev pub service : ℕ
service = 6

abbrev pub noted : ℕ
noted = 8

abbrev pub status : ℕ
status = 9

abbrev pub loadlength : ℕ
loadlength = 12

abbrev pub sent : ℕ
sent = 13

abbrev pub last : ℕ
last = 14

abbrev pub replied : ℕ
replied = 16

abbrev pub remote : ℕ
remote = 17

abbrev pub enabled : ℕ
enabled = 18

abbrev pub choice : ℕ
choice = 19

abbrev pub fixedsecond : ℕ
fixedsecond = 20

abbrev pub second : ℕ
second = 21

abbrev pub assigned : ℕ
assigned = 22

abbrev pub pollstatus : ℕ
pollstatus = 23

-- a value, by its place, and what becomes of it
pub record Edit : Type 0 where
  pub place : ℕ
  pub new : ℕ

infix 70 ◌becomes◌
abbrev pub ◌becomes◌ : ℕ → ℕ → Edit
p becomes x = record { place = p; new = x }

-- what becomes of the value at a place: its edit, or else what it was
abbrev pub after : List Edit → (place old : ℕ) → ℕ
after [] p old = old
after (e ∷ es) p old = cond (eqb e.place p) e.new (after es p old)

-- the device with these edits, and with this data
abbrev pub remade : Device → List Edit → List ℕ → Device
remade d es load =
    record {
      abilities = d.abilities;
      fixed = d.fixed;
      address = after es address d.address;
      configured = after es configured d.configured;
      listener = after es listener d.listener;
      talker = after es talker d.talker;
      service = after es service d.service;
      further = d.further;
      noted = after es noted d.noted;
      status = after es status d.status;
      accessory = d.accessory;
      idlength = d.idlength;
      loadlength = after es loadlength d.loadlength;
      sent = after es sent d.sent;
      last = after es last d.last;
      replied = after es replied d.replied;
      remote = after es remote d.remote;
      enabled = after es enabled d.enabled;
      choice = after es choice d.choice;
      fixedsecond = after es fixedsecond d.fixedsecond;
      second = after es second d.second;
      assigned = after es assigned d.assigned;
      pollstatus = after es pollstatus d.pollstatus;
      id = d.id;
      load = load;
    }

-- the device with these edits
abbrev pub changed : Device → List Edit → Device
changed d es = remade d es d.load

-- listener x
abbrev pub listening : Device → ℕ → Device
listening d x = changed d (listener becomes x ∷ [])

-- talker x, nothing of a reply sent yet or any more: bytes 8, 14, 15, 16 are zero
abbrev pub talking : Device → ℕ → Device
talking d x = changed d (talker becomes x ∷ noted becomes 0 ∷ last becomes 0 ∷ replied becomes 0 ∷ [])

-- address now a, configured x
abbrev pub placed : Device → ℕ → ℕ → Device
placed d a x = changed d (address becomes a ∷ configured becomes x ∷ [])

-- service x
abbrev pub serving : Device → ℕ → Device
serving d x = changed d (service becomes x ∷ [])

-- NRD seen
abbrev pub noting : Device → Device
noting d = changed d (noted becomes 1 ∷ [])

-- last frame sent f, bytes of the data sent s, bytes of another reply sent r
abbrev pub counting : Device → (f s r : ℕ) → Device
counting d f s r = changed d (last becomes f ∷ sent becomes s ∷ replied becomes r ∷ [])

-- state x of remote and local
abbrev pub remoting : Device → ℕ → Device
remoting d x = changed d (remote becomes x ∷ [])

-- remote enable flag x
abbrev pub enabling : Device → ℕ → Device
enabling d x = changed d (enabled becomes x ∷ [])

-- choice e
abbrev pub choosing : Device → ℕ → Device
choosing d e = changed d (choice becomes e ∷ [])

-- the data bs, none of it sent, and the choice e
abbrev pub loading : Device → List ℕ → ℕ → Device
loading d bs e =
    remade d (loadlength becomes length bs ∷ sent becomes 0 ∷ choice becomes e ∷ []) (bytes_from 0 most_data bs)

-- status s
abbrev pub statusing : Device → ℕ → Device
statusing d s = changed d (status becomes s ∷ [])

-- sense and bit x, as byte 22 holds them
abbrev pub assigning : Device → ℕ → Device
assigning d x = changed d (assigned becomes x ∷ [])

-- poll status s
abbrev pub pollstatusing : Device → ℕ → Device
pollstatusing d s = changed d (pollstatus becomes s ∷ [])

-- in front of the second addresses l and t, each 0 or `received`: whether the listen and the talk primary were
abbrev pub flagging : Device → (l t : ℕ) → Device
flagging d l t = changed d (fixedsecond becomes (fixed_second d + l) ∷ second becomes (present_second d + t) ∷ [])

-- present second address a, the flag in front of it as it was
abbrev pub seconding : Device → ℕ → Device
seconding d a = changed d (second becomes ((d.second / received) * received + a) ∷ [])
