-- Parallel poll beside note 5 of 001's message table, and the rack of eight fixtures (02, f). Each is one statement,
-- computed in proofs/PollTable.antt.
use Rattle.std.specs.Prelude.{ℕ, zero, suc, ◌+◌, ◌/◌, ◌%◌, ◌≡◌, List, [], ◌∷◌, ◌++◌, map, replicate}
use Rattle.frame.specs.Decoding.{decoded}
use Rattle.device.specs.Device.{listen, auto_address, parallel_poll}
use Rattle.device.specs.PowerOn.{power_on}
use Rattle.device.specs.Change.{listening, pollstatusing}
use Rattle.device.specs.Take.{takes}
use Rattle.device.specs.PollSentences.{past_all}
use Rattle.device.specs.declared.Device.{Device}

-- a device that can listen, be given an address and be polled: an item of 13 bytes
abbrev pub fixture : Device
fixture = power_on ((auto_address + listen) ∷ 0x1f ∷ replicate 10 0 ++ parallel_poll ∷ [])

-- ---- Note 5

-- PPE with this number, and the IDY 600 as an addressed listener sends it on then, with status 0 and with status 1
pub record Line : Type 0 where
  pub ppe : ℕ
  pub no : ℕ
  pub yes : ℕ

abbrev pub line : (ppe no yes : ℕ) → Line
line p n y = record { ppe = p; no = n; yes = y }

-- S, then BBB: 0 changes the bit where no service is required, 1 where it is; 000 is D1 and 111 is D8. 13 is D6.
abbrev pub note5 : List Line
note5 =
    line 0 0x601 0x600 ∷
    line 1 0x602 0x600 ∷
    line 2 0x604 0x600 ∷
    line 3 0x608 0x600 ∷
    line 4 0x610 0x600 ∷
    line 5 0x620 0x600 ∷
    line 6 0x640 0x600 ∷
    line 7 0x680 0x600 ∷
    line 8 0x600 0x601 ∷
    line 9 0x600 0x602 ∷
    line 10 0x600 0x604 ∷
    line 11 0x600 0x608 ∷
    line 12 0x600 0x610 ∷
    line 13 0x600 0x620 ∷
    line 14 0x600 0x640 ∷
    line 15 0x600 0x680 ∷
    []

-- what a fixture sends on for the IDY f, with PPE p taken before and the status s
abbrev pub polled : (p s f : ℕ) → ℕ
polled p s f = (takes (pollstatusing (takes (listening fixture 1) (0x480 + p)).device s) f).frame

-- what a line's device does
abbrev pub seen : Line → Line
seen l = line l.ppe (polled l.ppe 0 0x600) (polled l.ppe 1 0x600)

-- where all bits are one already, and C1 is
abbrev pub kept : Line → Line
kept l = line l.ppe (polled l.ppe 0 0x7ff) (polled l.ppe 1 0x7ff)

-- Each line is what the device does, and no bit that is one is cleared.
abbrev pub Note5 : Type 0
Note5 = (map seen note5 ≡ note5) × (map kept note5 ≡ map (λ (l : Line). line l.ppe 0x7ff 0x7ff) note5)

-- ---- The rack of eight (001, section 5.5)

-- devices in a line after a frame that they took one after the other
abbrev pub goes : List Device → ℕ → List Device
goes [] f = []
goes (d ∷ ds) f = (takes d f).device ∷ goes ds (takes d f).frame

-- and after several, each right round
abbrev pub after_all : List Device → List ℕ → List Device
after_all ds [] = ds
after_all ds (f ∷ fs) = after_all (goes ds f) fs

-- LAD a, PPE with sense 1 and bit b, UNL: for n devices, from address a on, from bit b on
abbrev pub assign : (n a b : ℕ) → List ℕ
assign zero a b = []
assign (suc n) a b = (0x420 + a) ∷ (0x488 + b) ∷ 0x43f ∷ assign n (suc a) (suc b)

-- eight fixtures at addresses 1 to 8, each on its own bit: AAD 1, UNL, PPU, and then LAD, PPE and UNL for each
abbrev pub rack : List Device
rack = after_all (replicate 8 fixture) (0x581 ∷ 0x43f ∷ 0x415 ∷ assign 8 1 0)

-- the devices with the bits of x as their statuses, the lowest first
abbrev pub statuses : ℕ → List Device → List Device
statuses x [] = []
statuses x (d ∷ ds) = pollstatusing d (x % 2) ∷ statuses (x / 2) ds

-- the data bits of an IDY that has gone round
abbrev pub reads : List Device → ℕ
reads ds = (decoded (past_all ds 0x600)).offset

-- the n numbers from k on
abbrev pub from : (k n : ℕ) → List ℕ
from k zero = []
from k (suc n) = k ∷ from (suc k) n

-- One IDY reads the eight statuses, for all 256 of them.
abbrev pub RackReads : Type 0
RackReads = map (λ x. reads (statuses x rack)) (from 0 256) ≡ from 0 256
