-- Extended devices assigned and addressed, as a table (02, i): frames that go right round a line of devices, what comes
-- out of each, and how the devices stand then. All of it is one statement, computed in proofs/ExtendedTable.antt.
use Rattle.std.specs.Prelude.{ℕ, ◌+◌, ◌≡◌, List, [], ◌∷◌, ◌++◌, map, replicate}
use Rattle.device.specs.Device.{listen, send_data, auto_address, unaddress, extended, half_assigned, no_address}
use Rattle.device.specs.Device.{received, present_second}
use Rattle.device.specs.PowerOn.{power_on}
use Rattle.device.specs.Change.{placed, flagging, seconding}
use Rattle.device.specs.PollSentences.{past_all}
use Rattle.device.specs.PollTable.{goes, after_all}
use Rattle.device.specs.declared.Device.{Device}

-- an extended device of these abilities with the fixed addresses a and s, by an item of 14 bytes
abbrev pub made : (abilities a s : ℕ) → Device
made abilities a s = power_on (abilities ∷ a ∷ replicate 10 0 ++ (extended ∷ s ∷ []))

-- a sensor, which listens and sends data, without fixed addresses; one that unaddresses too; and one at 3 and 7
abbrev pub sensor : Device
sensor = made (listen + send_data) no_address no_address

abbrev pub unaddressing : Device
unaddressing = made (listen + send_data + unaddress) no_address no_address

abbrev pub fixed37 : Device
fixed37 = made (listen + send_data) 3 7

-- a device at the addresses a and s, and as configured as x says
abbrev pub at : Device → (a s x : ℕ) → Device
at d a s x = placed (seconding d s) a x

-- a simple device at 5
abbrev pub simple : Device
simple = placed (power_on ((listen + send_data + auto_address) ∷ no_address ∷ [])) 5 1

-- how a device stands: both addresses, configured, listener, talker
pub record Stands : Type 0 where
  pub address : ℕ
  pub second : ℕ
  pub configured : ℕ
  pub listener : ℕ
  pub talker : ℕ

abbrev pub stands : (address second configured listener talker : ℕ) → Stands
stands a s c l t = record { address = a; second = s; configured = c; listener = l; talker = t }

abbrev pub standing : Device → Stands
standing d = stands d.address (present_second d) d.configured d.listener d.talker

-- the frames out, each sent right round before the next
abbrev pub out_of : List Device → List ℕ → List ℕ
out_of ds [] = []
out_of ds (f ∷ fs) = past_all ds f ∷ out_of (goes ds f) fs

pub record Row : Type 0 where
  pub start : List Device
  pub frames : List ℕ
  pub out : List ℕ
  pub left : List Stands

-- commands alone, which come out as they went in
abbrev pub commands : List Device → List ℕ → List Stands → Row
commands ds fs ss = record { start = ds; frames = fs; out = fs; left = ss }

-- any frames, and what comes out
abbrev pub row : List Device → (frames out : List ℕ) → List Stands → Row
row ds fs os ss = record { start = ds; frames = fs; out = os; left = ss }

-- three sensors to be assigned, two at 5 0 and 5 1, and one alone at 5 0 that unaddresses
abbrev pub three : List Device
three = sensor ∷ sensor ∷ sensor ∷ []

abbrev pub two : List Device
two = at sensor 5 0 1 ∷ at sensor 5 1 1 ∷ []

abbrev pub one : List Device
one = at unaddressing 5 0 1 ∷ []

abbrev pub table : List Row
table =
    -- AES 0, AEP 5: out come 3 and 5
    row three (0x5c0 ∷ 0x5a5 ∷ []) (0x5c3 ∷ 0x5a5 ∷ [])
    (stands 5 0 1 0 0 ∷ stands 5 1 1 0 0 ∷ stands 5 2 1 0 0 ∷ []) ∷
    -- a second AES, and a second AEP, are not taken
    row three (0x5c0 ∷ 0x5c9 ∷ 0x5a5 ∷ 0x5a6 ∷ []) (0x5c3 ∷ 0x5c9 ∷ 0x5a5 ∷ 0x5a6 ∷ [])
    (stands 5 0 1 0 0 ∷ stands 5 1 1 0 0 ∷ stands 5 2 1 0 0 ∷ []) ∷
    -- AES 29: after 30 comes IES, which nobody takes, and AEP goes to those that took AES
    row three (0x5dd ∷ 0x5a5 ∷ []) (0x5df ∷ 0x5a5 ∷ [])
    (stands 5 29 1 0 0 ∷ stands 5 30 1 0 0 ∷ stands 31 31 0 0 0 ∷ []) ∷
    -- AEP before AES is not taken; neither are IES, IEP and AAD
    row three (0x5a5 ∷ 0x5df ∷ 0x5bf ∷ 0x581 ∷ []) (0x5a5 ∷ 0x5df ∷ 0x5bf ∷ 0x581 ∷ [])
    (stands 31 31 0 0 0 ∷ stands 31 31 0 0 0 ∷ stands 31 31 0 0 0 ∷ []) ∷
    -- TAD 5, SAD 1: the second talks; then TAD 5, SAD 0: the first does, and the second falls idle
    commands two (0x445 ∷ 0x461 ∷ []) (stands 5 0 1 0 0 ∷ stands 5 1 1 0 1 ∷ []) ∷
    commands two (0x445 ∷ 0x461 ∷ 0x445 ∷ 0x460 ∷ []) (stands 5 0 1 0 1 ∷ stands 5 1 1 0 0 ∷ []) ∷
    -- TAD 5, SAD 1 and TAD 6, or UNT: the second falls idle
    commands two (0x445 ∷ 0x461 ∷ 0x446 ∷ []) (stands 5 0 1 0 0 ∷ stands 5 1 1 0 0 ∷ []) ∷
    commands two (0x445 ∷ 0x461 ∷ 0x45f ∷ []) (stands 5 0 1 0 0 ∷ stands 5 1 1 0 0 ∷ []) ∷
    -- LAD 5, SAD 0: the first listens; both do if each has its LAD, and one LAD is for one SAD
    commands two (0x425 ∷ 0x460 ∷ []) (stands 5 0 1 1 0 ∷ stands 5 1 1 0 0 ∷ []) ∷
    commands two (0x425 ∷ 0x460 ∷ 0x425 ∷ 0x461 ∷ []) (stands 5 0 1 1 0 ∷ stands 5 1 1 1 0 ∷ []) ∷
    commands two (0x425 ∷ 0x460 ∷ 0x461 ∷ []) (stands 5 0 1 1 0 ∷ stands 5 1 1 0 0 ∷ []) ∷
    -- a command between, NUL, LAD 6 or TAD 6, breaks it; a ready frame, RFC, does not
    commands two (0x425 ∷ 0x400 ∷ 0x460 ∷ []) (stands 5 0 1 0 0 ∷ stands 5 1 1 0 0 ∷ []) ∷
    commands two (0x425 ∷ 0x426 ∷ 0x460 ∷ []) (stands 5 0 1 0 0 ∷ stands 5 1 1 0 0 ∷ []) ∷
    commands two (0x425 ∷ 0x446 ∷ 0x460 ∷ []) (stands 5 0 1 0 0 ∷ stands 5 1 1 0 0 ∷ []) ∷
    commands two (0x425 ∷ 0x500 ∷ 0x460 ∷ []) (stands 5 0 1 1 0 ∷ stands 5 1 1 0 0 ∷ []) ∷
    -- SAD 0 without its primary
    commands two (0x460 ∷ []) (stands 5 0 1 0 0 ∷ stands 5 1 1 0 0 ∷ []) ∷
    -- without 64 a sensor keeps both roles; with it the later one alone, in both directions
    commands two (0x425 ∷ 0x460 ∷ 0x445 ∷ 0x460 ∷ []) (stands 5 0 1 1 1 ∷ stands 5 1 1 0 0 ∷ []) ∷
    commands one (0x425 ∷ 0x460 ∷ 0x445 ∷ 0x460 ∷ []) (stands 5 0 1 0 1 ∷ []) ∷
    commands one (0x445 ∷ 0x460 ∷ 0x425 ∷ 0x460 ∷ []) (stands 5 0 1 1 0 ∷ []) ∷
    -- both primaries received, as a lent record may have it: first the one, then the other
    commands (flagging (at sensor 5 0 1) received received ∷ []) (0x460 ∷ []) (stands 5 0 1 1 1 ∷ []) ∷
    commands (flagging (at unaddressing 5 0 1) received received ∷ []) (0x460 ∷ []) (stands 5 0 1 0 1 ∷ []) ∷
    -- AAU unconfigured, configured and half assigned
    commands (fixed37 ∷ at fixed37 5 0 1 ∷ at fixed37 5 0 half_assigned ∷ []) (0x49a ∷ [])
    (stands 3 7 0 0 0 ∷ stands 3 7 0 0 0 ∷ stands 3 7 0 0 0 ∷ []) ∷
    -- half assigned with 31, which AES and AEP leave so; AAU does not
    commands (at fixed37 3 no_address half_assigned ∷ []) (0x5c0 ∷ 0x5a5 ∷ []) (stands 3 31 2 0 0 ∷ []) ∷
    commands (at fixed37 3 no_address half_assigned ∷ []) (0x5c0 ∷ 0x5a5 ∷ 0x49a ∷ []) (stands 3 7 0 0 0 ∷ []) ∷
    -- a simple device beside a sensor: TAD 5 is enough for it, and it leaves SAD, AES and AEP alone
    commands (simple ∷ two) (0x445 ∷ 0x461 ∷ []) (stands 5 0 1 0 1 ∷ stands 5 0 1 0 0 ∷ stands 5 1 1 0 1 ∷ []) ∷
    row (simple ∷ sensor ∷ []) (0x5c0 ∷ 0x5a6 ∷ []) (0x5c1 ∷ 0x5a6 ∷ []) (stands 5 0 1 0 0 ∷ stands 6 0 1 0 0 ∷ []) ∷
    []

-- what a row's frames do
abbrev pub seen : Row → Row
seen r =
    record {
      start = r.start;
      frames = r.frames;
      out = out_of r.start r.frames;
      left = map standing (after_all r.start r.frames);
    }

-- Each row's frames come out, and leave the devices, as the row says.
abbrev pub ExtendedTable : Type 0
ExtendedTable = map seen table ≡ table
