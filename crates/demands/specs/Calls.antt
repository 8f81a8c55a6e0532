-- Every exported call with any arguments, and what it answers and leaves: by the limit that holds, the very definitions
-- that the contracts of the exported functions cite.
use Rattle.std.specs.Prelude.{ℕ, ◌<◌, List, map}
use Rattle.device.specs.declared.Device.{Device}
use Rattle.record_local.specs.Local.{Called, loads, sets_status, wishes, presses, sets_poll_status}
use Rattle.area.specs.Sizes.{most_devices}
use Rattle.area.specs.Loop.{Loop}
use Rattle.calls.specs.Outcome.{Outcome, After, after, call_with, reads}
use Rattle.calls.specs.Calls.{refusal, put_in, no_take, take_in, no_hop, hop_in, local_in, load_in}
use Rattle.calls.specs.Drain.{no_drain, drain_in}
use Rattle.calls.specs.Owed.{no_owed, owed_in}
use Rattle.calls.specs.SetUp.{set_up_with}
use Rattle.saved.specs.Calls.{save_with, open_with}
use Rattle.coding.specs.Coding.{no_decoding, decode_answer, no_encoding, encode_answer}
use Rattle.poll_count.specs.Count.{no_count, poll_count as pollAnswer}
use Rattle.walk.specs.Walk.{no_walk, walk_with}
use Rattle.calls.specs.declared.HopAnswer.{HopAnswer}
use Rattle.calls.specs.declared.TakeAnswer.{TakeAnswer}
use Rattle.calls.specs.declared.DrainAnswer.{DrainAnswer}
use Rattle.calls.specs.declared.OwedAnswer.{OwedAnswer}
use Rattle.coding.specs.declared.DecodeAnswer.{DecodeAnswer}
use Rattle.coding.specs.declared.EncodeAnswer.{EncodeAnswer}
use Rattle.poll_count.specs.declared.PollAnswer.{PollAnswer}
use Rattle.walk.specs.declared.WalkAnswer.{WalkAnswer}

-- a byte, as C has it
pub record Byte : Type 0 where
  pub value : ℕ
  pub small : value < 256

abbrev pub numbers : List Byte → List ℕ
numbers bs = map (λ (b : Byte). b.value) bs

-- a local call on a device
pub data Local : Type 0 where
  -- with the choice how the last byte goes out; pil_load_end is the load with 1, as its contract says
  load : List Byte → ℕ → Local
  status : Byte → Local
  wish : ℕ → Local
  key : Local
  poll_status : ℕ → Local

-- what it leaves of the device
abbrev pub called_by : Local → Device → Called
called_by (load bs e) d = loads d (numbers bs) e
called_by (status s) d = sets_status d s.value
called_by (wish w) d = wishes d w
called_by key d = presses d
called_by (poll_status s) d = sets_poll_status d s

-- and what it does with device i of a loop: a load's choice is looked at before the device is
abbrev pub local_by : Local → ℕ → Loop → Outcome ℕ
local_by (load bs e) i l = load_in i (numbers bs) e l
local_by (status s) i l = local_in (called_by (status s)) i l
local_by (wish w) i l = local_in (called_by (wish w)) i l
local_by key i l = local_in (called_by key) i l
local_by (poll_status s) i l = local_in (called_by (poll_status s)) i l

-- a call on the area of a loop that is set up or opened
pub data Action : Type 0 where
  put : ℕ → Action
  hop : ℕ → Action
  take : Action
  local : ℕ → Local → Action
  drain : ℕ → Action
  owes : Action
  -- with the bytes of its output before
  save : List Byte → Action

-- a call on the numbers of a frame, which is lent no area
pub data Coding : Type 0 where
  decode : ℕ → Coding
  encode : (kind offset c1 : ℕ) → Coding
  poll_count : ℕ → Coding

-- any exported call
pub data Call : Type 0 where
  on_area : Action → Call
  set_up : List Byte → Call
  opens : (s : List Byte) → Call
  on_frame : Coding → Call
  -- of a frame past records, which are lent in place of an area (02, l); with the bytes of told before
  walk : (f : ℕ) → List Byte → Call

-- what a C caller is answered
pub data Answer : Type 0 where
  plain : ℕ → Answer
  hopped : HopAnswer → Answer
  taken : TakeAnswer → Answer
  drained : DrainAnswer → Answer
  owing : OwedAnswer → Answer
  -- a refusal, and the output of a save afterwards
  saving : ℕ → List ℕ → Answer
  decoded : DecodeAnswer → Answer
  encoded : EncodeAnswer → Answer
  polled : PollAnswer → Answer
  -- with told afterwards
  walked : WalkAnswer → List ℕ → Answer

-- an answer of one type as any answer
abbrev pub told : {A : Type 0} → (A → Answer) → After A → After Answer
told kind o = after (kind o.answer) o.area

-- what a call on an area answers and leaves, by a limit on the devices (02, j); owes and save are lent their area to
-- read alone
abbrev pub acts_with : ℕ → Action → List ℕ → After Answer
acts_with limit (put f) a = told plain (call_with limit refusal (put_in f) a)
acts_with limit (hop i) a = told hopped (call_with limit no_hop (hop_in i) a)
acts_with limit take a = told taken (call_with limit no_take take_in a)
acts_with limit (local i c) a = told plain (call_with limit refusal (local_by c i) a)
acts_with limit (drain b) a = told drained (call_with limit no_drain (drain_in b) a)
acts_with limit owes a = after (owing (call_with limit no_owed (reads owed_in) a).answer) a
acts_with limit (save out) a =
    after (saving (save_with limit a (numbers out)).answer (save_with limit a (numbers out)).area) a

-- what a call on a frame answers
abbrev pub codes : Coding → Answer
codes (decode f) = decoded (decode_answer f)
codes (encode k o c) = encoded (encode_answer k o c)
codes (poll_count f) = polled (pollAnswer f)

-- what any call answers and leaves
abbrev pub pil_with : ℕ → Call → List ℕ → After Answer
pil_with limit (on_area c) a = acts_with limit c a
pil_with limit (set_up items) a = told plain (set_up_with limit a (numbers items))
pil_with limit (opens s) a = told plain (open_with limit a (numbers s))
pil_with limit (on_frame c) a = after (codes c) a
pil_with limit (walk f t) a = let w = walk_with limit a f (numbers t) in after (walked w.answer w.told) w.records

-- both by the limit that holds
abbrev pub acts : Action → List ℕ → After Answer
acts c a = acts_with most_devices c a

abbrev pub pil : Call → List ℕ → After Answer
pil c a = pil_with most_devices c a

-- the refusal in an answer, 0 for none
abbrev pub refusal_in : Answer → ℕ
refusal_in (plain k) = k
refusal_in (hopped r) = r.refusal
refusal_in (taken r) = r.refusal
refusal_in (drained r) = r.refusal
refusal_in (owing r) = r.refusal
refusal_in (saving k out) = k
refusal_in (decoded r) = r.refusal
refusal_in (encoded r) = r.refusal
refusal_in (polled r) = r.refusal
refusal_in (walked r t) = r.refusal

-- the answer of a refusal: its number and otherwise zeros, and an output or told as it was
abbrev pub bare_action : Action → ℕ → Answer
bare_action (put f) k = plain k
bare_action (hop i) k = hopped (no_hop k)
bare_action take k = taken (no_take k)
bare_action (local i c) k = plain k
bare_action (drain b) k = drained (no_drain k)
bare_action owes k = owing (no_owed k)
bare_action (save out) k = saving k (numbers out)

abbrev pub bare_coding : Coding → ℕ → Answer
bare_coding (decode f) k = decoded (no_decoding k)
bare_coding (encode j o c) k = encoded (no_encoding k)
bare_coding (poll_count f) k = polled (no_count k)

abbrev pub bare : Call → ℕ → Answer
bare (on_area c) k = bare_action c k
bare (set_up items) k = plain k
bare (opens s) k = plain k
bare (on_frame c) k = bare_coding c k
bare (walk f t) k = walked (no_walk k) (numbers t)
