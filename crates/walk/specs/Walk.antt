-- A frame walked past every device, without links (02, l): the frame that comes out, the records after it, and what was
-- handed to each. It is lent the first bytes of an area, header and records, and four bytes a device to tell in.
use Rattle.std.specs.Prelude.{ℕ, ◌*◌, ◌-◌, List, [], ◌∷◌, ◌++◌, map, Bool, ◌&&◌, cond, length, take, eqb, ltb}
use Rattle.frame.specs.Messages.{frames}
use Rattle.frame.specs.Coding.{bad_frame}
use Rattle.device.specs.PowerOn.{bytes_from}
use Rattle.device.specs.Take.{takes}
use Rattle.device.specs.Sent.{Sent}
use Rattle.device.specs.declared.Device.{Device}
use Rattle.device.specs.declared.Handed.{Handed}
use Rattle.record.specs.Record.{device_of, record_of, zeros}
use Rattle.record.specs.Sound.{sound_record}
use Rattle.area.specs.Sizes.{header_size, most_devices, is_count, record_at}
use Rattle.area.specs.Parts.{join, all}
use Rattle.area.specs.Loop.{count_in, records_in, shape, unsound}
use Rattle.calls.specs.Calls.{hop_answer}
use Rattle.calls.specs.declared.HopAnswer.{HopAnswer}
use Rattle.walk.specs.declared.WalkAnswer.{WalkAnswer}

-- ---- Past devices, the first one first

-- what each does with the frame that the one before it sent
unfoldable pub past : List Device → ℕ → List Sent
past [] f = []
past (d ∷ ds) f = takes d f ∷ past ds (takes d f).frame

-- the frame that comes out
unfoldable pub out_of : List Device → ℕ → ℕ
out_of [] f = f
out_of (d ∷ ds) f = out_of ds (takes d f).frame

-- ---- In bytes

-- the last four numbers of a hop's answer: handed, byte, end, event
abbrev pub four_bytes : HopAnswer → List ℕ
four_bytes r = r.handed ∷ r.byte ∷ r.end ∷ r.event ∷ []

-- what a device was handed, as a hop's answer has it, in four bytes
abbrev pub told_size : ℕ
told_size = 4

abbrev pub told_of : Handed → List ℕ
told_of h = four_bytes (hop_answer 0 h)

-- the devices of header and records
abbrev pub devices_in : List ℕ → List Device
devices_in a = map device_of (records_in a)

-- ---- Refusals

-- byte 0 is a number of devices, at most so many, and both lengths are that number's
unfoldable pub fits_with : ℕ → List ℕ → List ℕ → Bool
fits_with limit a told =
    is_count limit (count_in a) &&
    (eqb (length a) (record_at (count_in a)) &&
    eqb (length told) (told_size * count_in a))

-- the header's zeros, and each record
unfoldable pub sound_records : List ℕ → Bool
sound_records a = zeros (bytes_from 1 (header_size - 1) a) && all sound_record (records_in a)

-- the refusal, 0 for none
unfoldable pub refusal_with : ℕ → List ℕ → ℕ → List ℕ → ℕ
refusal_with limit a f told =
    cond (fits_with limit a told) (cond (sound_records a) (cond (ltb f frames) 0 bad_frame) unsound) shape

-- ---- The call

-- an answer, and all of the lent bytes after the call
pub record Walked : Type 0 where
  pub answer : WalkAnswer
  pub records : List ℕ
  pub told : List ℕ

-- a refusal leaves them as they were
abbrev pub no_walk : ℕ → WalkAnswer
no_walk k = record { frame = 0; refusal = k }

abbrev pub stays : ℕ → List ℕ → List ℕ → Walked
stays k a told = record { answer = no_walk k; records = a; told = told }

-- else the header stays, each record becomes that of its device after the frame, and all of told is written
abbrev pub walks : List ℕ → ℕ → Walked
walks a f =
    let sent = past (devices_in a) f in
    record {
      answer = record { frame = out_of (devices_in a) f; refusal = 0 };
      records = take header_size a ++ join (map (λ s. record_of s.device) sent);
      told = join (map (λ s. told_of s.handed) sent);
    }

-- by a limit on the devices, and by the one that holds
unfoldable pub walk_with : ℕ → List ℕ → ℕ → List ℕ → Walked
walk_with limit a f told =
    let k = refusal_with limit a f told in cond (eqb k 0) (walks a f) (stays k a told)

abbrev pub walk_of : List ℕ → ℕ → List ℕ → Walked
walk_of a f told = walk_with most_devices a f told
