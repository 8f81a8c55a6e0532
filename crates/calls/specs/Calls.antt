-- Put, take, hop and the local calls (01, The calls; 02, d, f and h), each on a loop and then on an area, with its
-- refusals in 01's order.
use Rattle.std.specs.Prelude.{ℕ, suc, List, cond, ltb, eqb, Option, Some, None}
use Rattle.frame.specs.Messages.{frames}
use Rattle.frame.specs.Coding.{bad_frame}
use Rattle.device.specs.Device.{is_choice}
use Rattle.device.specs.Take.{takes}
use Rattle.record_local.specs.Local.{loads, sets_status, wishes, presses, sets_poll_status}
use Rattle.device.specs.declared.Device.{Device}
use Rattle.device.specs.declared.Handed.{Handed}
use Rattle.device.specs.declared.Handed.TheVariants as handed
use Rattle.device.specs.Sent.{Sent}
use Rattle.record_local.specs.Local.{Called}
use Rattle.area.specs.Loop.{Loop, size, unsound, device, link}
use Rattle.area.specs.Lookup.{oldest_of, room_of, place_of, set_device, add, remove}
use Rattle.calls.specs.Outcome.{Outcome, refuse, done, After, call_of}
use Rattle.calls.specs.declared.HopAnswer.{HopAnswer}
use Rattle.calls.specs.declared.TakeAnswer.{TakeAnswer}

-- refusals: no such device, nothing to take, no room
abbrev pub no_device : ℕ
no_device = 3

abbrev pub empty : ℕ
empty = 5

abbrev pub full : ℕ
full = 6

-- ---- the lookups' answers in the paper's numbers

-- with the device at a place, refusal 3 where there is none
abbrev pub at_place : {A : Type 0} → (ℕ → Outcome A) → Option ℕ → Outcome A
at_place call None = refuse no_device
at_place call (Some i) = call i

-- with a link's oldest frame, refusal 5 where it holds none
abbrev pub of_oldest : {A : Type 0} → (ℕ → Outcome A) → Option ℕ → Outcome A
of_oldest call None = refuse empty
of_oldest call (Some f) = call f

-- into a link's room, refusal 6 where there is none
abbrev pub into_room : {A : Type 0} → Outcome A → Option ℕ → Outcome A
into_room sent None = refuse full
into_room sent (Some n) = sent

-- the answer of a call that answers its refusal alone
abbrev pub refusal : ℕ → ℕ
refusal k = k

-- ---- put: a frame of any kind into link 0

unfoldable pub put_in : ℕ → Loop → Outcome ℕ
put_in f l = cond (ltb f frames) (into_room (done 0 (add 0 f l)) (room_of (link l 0))) (refuse bad_frame)

-- ---- take: the tail's oldest frame comes out

abbrev pub no_take : ℕ → TakeAnswer
no_take k = record { frame = 0; refusal = k }

-- the tail lost f, its oldest frame
abbrev pub taken_from : Loop → ℕ → Outcome TakeAnswer
taken_from l f = done (record { frame = f; refusal = 0 }) (remove (size l) l)

unfoldable pub take_in : Loop → Outcome TakeAnswer
take_in l = of_oldest (taken_from l) (oldest_of (link l (size l)))

-- ---- hop: device i takes its oldest frame and sends one

-- the events that it reports: none, a clear, a trigger (02, d)
abbrev pub no_event : ℕ
no_event = 0

abbrev pub clear : ℕ
clear = 1

abbrev pub trigger : ℕ
trigger = 2

abbrev pub no_hop : ℕ → HopAnswer
no_hop k = record { frame = 0; refusal = k; handed = 0; byte = 0; end = 0; event = no_event }

-- the numbers of a hop that sent f, for each case of what was handed over
abbrev pub hop_answer : ℕ → Handed → HopAnswer
hop_answer f handed.Nothing = record { frame = f; refusal = 0; handed = 0; byte = 0; end = 0; event = no_event }
hop_answer f (handed.Byte b e) = record { frame = f; refusal = 0; handed = 1; byte = b; end = e; event = no_event }
hop_answer f handed.Clear = record { frame = f; refusal = 0; handed = 0; byte = 0; end = 0; event = clear }
hop_answer f handed.Trigger = record { frame = f; refusal = 0; handed = 0; byte = 0; end = 0; event = trigger }

-- what device i does with frame f
abbrev pub sent_by : ℕ → ℕ → Loop → Sent
sent_by i f l = takes (device l i) f

-- the loop after device i took f, its oldest frame, and sent one on
abbrev pub passed : ℕ → ℕ → Loop → Loop
passed i f l = add (suc i) (sent_by i f l).frame (remove i (set_device i (sent_by i f l).device l))

-- so it is done,
abbrev pub passes : ℕ → ℕ → Loop → Outcome HopAnswer
passes i f l = done (hop_answer (sent_by i f l).frame (sent_by i f l).handed) (passed i f l)

-- if the next link has room
abbrev pub passes_on : ℕ → Loop → ℕ → Outcome HopAnswer
passes_on i l f = into_room (passes i f l) (room_of (link l (suc i)))

-- and if there is an oldest frame
abbrev pub hop_from : Loop → ℕ → Outcome HopAnswer
hop_from l i = of_oldest (passes_on i l) (oldest_of (link l i))

unfoldable pub hop_in : ℕ → Loop → Outcome HopAnswer
hop_in i l = at_place (hop_from l) (place_of l i)

-- ---- local calls: device i is called, and refuses or becomes another

abbrev pub called_in : ℕ → Loop → Called → Outcome ℕ
called_in i l c = cond (eqb c.refusal 0) (done 0 (set_device i c.device l)) (refuse c.refusal)

abbrev pub called_at : (Device → Called) → Loop → ℕ → Outcome ℕ
called_at call l i = called_in i l (call (device l i))

unfoldable pub local_in : (Device → Called) → ℕ → Loop → Outcome ℕ
local_in call i l = at_place (called_at call l) (place_of l i)

-- load refuses a choice other than 0 or 1 before the device is looked for (02, h)
unfoldable pub load_in : ℕ → List ℕ → ℕ → Loop → Outcome ℕ
load_in i bs e l = cond (is_choice e) (local_in (λ d. loads d bs e) i l) (refuse unsound)

-- ---- the calls on areas

abbrev pub put_of : List ℕ → ℕ → After ℕ
put_of a f = call_of refusal (put_in f) a

abbrev pub take_of : List ℕ → After TakeAnswer
take_of a = call_of no_take take_in a

abbrev pub hop_of : List ℕ → ℕ → After HopAnswer
hop_of a i = call_of no_hop (hop_in i) a

abbrev pub load_of : List ℕ → ℕ → List ℕ → ℕ → After ℕ
load_of a i bs e = call_of refusal (load_in i bs e) a

abbrev pub status_of : List ℕ → ℕ → ℕ → After ℕ
status_of a i s = call_of refusal (local_in (λ d. sets_status d s) i) a

abbrev pub wish_of : List ℕ → ℕ → ℕ → After ℕ
wish_of a i w = call_of refusal (local_in (λ d. wishes d w) i) a

abbrev pub key_of : List ℕ → ℕ → After ℕ
key_of a i = call_of refusal (local_in presses i) a

abbrev pub poll_status_of : List ℕ → ℕ → ℕ → After ℕ
poll_status_of a i s = call_of refusal (local_in (λ d. sets_poll_status d s) i) a
