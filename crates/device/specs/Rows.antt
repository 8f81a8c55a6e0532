-- 01's rows 1 to 12, row 13 of 02, b, and row 14 of 02, h: one device, abilities ff, fixed address 1f, with what a row
-- names; frames, and what is seen after each. All of them as one statement, proved in proofs/Table.antt.
use Rattle.std.specs.Prelude.{ℕ, ◌≡◌, List, [], ◌∷◌, map}
use Rattle.device.specs.Device.{addressed, asking, polled, plain_last, end_last}
use Rattle.device.specs.PowerOn.{power_on}
use Rattle.device.specs.Change.{talking, placed, serving, loading, statusing}
use Rattle.device.specs.Take.{takes}
use Rattle.device.specs.declared.Device.{Device}
use Rattle.device.specs.declared.Handed.{Handed}
use Rattle.device.specs.declared.Handed.TheVariants.{Nothing}
use Rattle.device.specs.Sent.{Sent}

-- abilities ff, fixed address 1f, all else zero
abbrev pub unconfigured : Device
unconfigured = power_on (0xff ∷ 0x1f ∷ [])

-- configured at a
abbrev pub at : ℕ → Device
at a = placed unconfigured a 1

-- talker 1 with data 41 42, the last byte END or plain by choice
abbrev pub loaded_by : ℕ → Device
loaded_by e = loading (talking unconfigured addressed) (0x41 ∷ 0x42 ∷ []) e

abbrev pub loaded : Device
loaded = loaded_by end_last

-- talker 1, service 1, status 20
abbrev pub polling : Device
polling = statusing (serving (talking unconfigured addressed) asking) 0x20

-- after a frame: the frame sent, the address now, configured, talker and service, and what was handed over
pub record Seen : Type 0 where
  pub frame : ℕ
  pub address : ℕ
  pub configured : ℕ
  pub talker : ℕ
  pub service : ℕ
  pub handed : Handed

abbrev pub after : Sent → Seen
after r =
    record {
      frame = r.frame;
      address = r.device.address;
      configured = r.device.configured;
      talker = r.device.talker;
      service = r.device.service;
      handed = r.handed;
    }

-- in no row anything is handed over
abbrev pub see : (frame address configured talker service : ℕ) → Seen
see f a c t s = record { frame = f; address = a; configured = c; talker = t; service = s; handed = Nothing }

-- what is seen as a device takes frames one after the other
abbrev pub seen : Device → List ℕ → List Seen
seen d [] = []
seen d (f ∷ fs) = after (takes d f) ∷ seen (takes d f).device fs

pub record Row : Type 0 where
  pub number : ℕ
  pub start : Device
  pub frames : List ℕ
  pub sees : List Seen

abbrev pub row : ℕ → Device → List ℕ → List Seen → Row
row n d fs s = record { number = n; start = d; frames = fs; sees = s }

abbrev pub table : List Row
table =
    row 1 unconfigured (0x59e ∷ []) (see 0x59f 30 1 0 0 ∷ []) ∷
    row 2 unconfigured (0x59f ∷ []) (see 0x59f 31 0 0 0 ∷ []) ∷
    row 3 (at 5) (0x581 ∷ []) (see 0x581 5 1 0 0 ∷ []) ∷
    row 4 (at 5) (0x445 ∷ 0x446 ∷ []) (see 0x445 5 1 1 0 ∷ see 0x446 5 1 0 0 ∷ []) ∷
    row 5 loaded (0x560 ∷ []) (see 0x041 31 0 2 0 ∷ []) ∷
    row 6 loaded (0x560 ∷ 0x041 ∷ []) (see 0x041 31 0 2 0 ∷ see 0x242 31 0 2 0 ∷ []) ∷
    row 7 loaded (0x560 ∷ 0x041 ∷ 0x242 ∷ []) (see 0x041 31 0 2 0 ∷ see 0x242 31 0 2 0 ∷ see 0x540 31 0 1 0 ∷ []) ∷
    row 8 loaded (0x560 ∷ 0x043 ∷ []) (see 0x041 31 0 2 0 ∷ see 0x541 31 0 1 0 ∷ []) ∷
    row 9 loaded (0x560 ∷ 0x141 ∷ []) (see 0x041 31 0 2 0 ∷ see 0x242 31 0 2 0 ∷ []) ∷
    row 10 loaded (0x560 ∷ 0x542 ∷ 0x041 ∷ 0x560 ∷ [])
    (see 0x041 31 0 2 0 ∷ see 0x542 31 0 2 0 ∷ see 0x540 31 0 1 0 ∷ see 0x242 31 0 2 0 ∷ []) ∷
    row 11 polling (0x561 ∷ []) (see 0x020 31 0 3 2 ∷ []) ∷
    row 12 (serving unconfigured asking) (0x600 ∷ []) (see 0x700 31 0 0 1 ∷ []) ∷
    row 12 (serving unconfigured polled) (0x600 ∷ []) (see 0x600 31 0 0 2 ∷ []) ∷
    row 13 loaded (0x560 ∷ 0x041 ∷ 0x042 ∷ []) (see 0x041 31 0 2 0 ∷ see 0x242 31 0 2 0 ∷ see 0x541 31 0 1 0 ∷ []) ∷
    row 14 (loaded_by plain_last) (0x560 ∷ 0x041 ∷ 0x042 ∷ [])
    (see 0x041 31 0 2 0 ∷ see 0x042 31 0 2 0 ∷ see 0x540 31 0 1 0 ∷ []) ∷
    []

-- Each row's frames show what the row says.
abbrev pub Rows : Type 0
Rows = map (λ (r : Row). seen r.start r.frames) table ≡ map (λ (r : Row). r.sees) table
