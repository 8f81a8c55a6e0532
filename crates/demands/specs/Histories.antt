-- Histories of calls on an area, in which its loop may be put away and opened: what a caller in C reads off their
-- answers, the turns of devices, and the history that sends each frame right round.
use Rattle.std.specs.Prelude.{ℕ, ◌+◌, ◌≡◌, Bool, true, false, not, cond, ◌&&◌, List, [], ◌∷◌, ◌++◌, map, eqb, ltb}
use Rattle.std.proofs.Math.Option.{Option, none, some}
use Rattle.std.proofs.Common.{lit<}
use Rattle.frame.specs.Messages.{frames}
use Rattle.device.specs.Take.{takes}
use Rattle.device.specs.declared.Device.{Device}
use Rattle.device.specs.declared.Handed.{Handed}
use Rattle.device.specs.declared.Handed.TheVariants as handed
use Rattle.record_local.specs.Local.{Called}
use Rattle.area.specs.Sizes.{depth}
use Rattle.area.specs.Loop.{count_in, loop_of}
use Rattle.calls.specs.Outcome.{After, after}
use Rattle.calls.specs.Calls.{clear, trigger}
use Rattle.calls.specs.declared.HopAnswer.{HopAnswer}
use Rattle.calls.specs.declared.DrainAnswer.{DrainAnswer}
use Rattle.saved.specs.Calls.{save_of, open_of}
use Rattle.walk.specs.Walk.{four_bytes}
use Rattle.order.specs.Line as line
use Rattle.order.specs.Flat.{line_up}
use Rattle.order.specs.History.{Turn, hops, does, turns}
use Rattle.order.specs.RightRound.{first, right_round, one_by_one}
use Rattle.order.specs.Through.{Every}
use Rattle.demands.specs.Calls.{Byte, numbers, Local, called_by, Action, put, hop, take, local, drain, owes, save}
use Rattle.demands.specs.Calls.{Answer, plain, hopped, taken, drained, owing, saving, decoded, encoded, polled}
use Rattle.demands.specs.Calls.{walked, told, acts, refusal_in}

-- ---- A history: one step after the other

-- a call; or the loop put away and what was saved opened at once, with what the output and the area lent for the
-- opening held before
pub data Step : Type 0 where
  call : Action → Step
  away : (out lent : List Byte) → Step

-- The history goes on in the area that was opened or, where the opening is refused, in the one that it had
abbrev pub or_stays : List ℕ → After ℕ → After ℕ
or_stays a o = after o.answer (cond (eqb o.answer 0) o.area a)

-- and so too where the save is refused: then nothing is opened.
abbrev pub put_away : (a out lent : List ℕ) → After ℕ
put_away a out lent =
    let s = save_of a out in cond (eqb s.answer 0) (or_stays a (open_of lent s.area)) (after s.answer a)

-- what a step answers and leaves
abbrev pub stepped : Step → List ℕ → After Answer
stepped (call c) a = acts c a
stepped (away out lent) a = told plain (put_away a (numbers out) (numbers lent))

-- the area that a history leaves, and the answers
abbrev pub history : List ℕ → List Step → List ℕ × List Answer
history a [] = (a, [])
history a (s ∷ ss) = ((history (stepped s a).area ss).0, (stepped s a).answer ∷ (history (stepped s a).area ss).1)

-- ---- What is read off each answer

-- what a device gets: a byte handed over, with its end bit; a clear (1) or trigger (2) reported
pub data Got : Type 0 where
  got : (byte end : ℕ) → Got
  reported : (event : ℕ) → Got

-- x where the test is passed, else nothing
abbrev pub if : {A : Type 0} → Bool → A → List A
if test x = cond test (x ∷ []) []

-- the frame that a put placed, if it was not refused
abbrev pub put_by : Action → Answer → List ℕ
put_by (put f) r = if (eqb (refusal_in r) 0) f
put_by (hop i) r = []
put_by take r = []
put_by (local i c) r = []
put_by (drain b) r = []
put_by owes r = []
put_by (save out) r = []

-- the frame that a take gave
abbrev pub taken_by : Action → Answer → List ℕ
taken_by c (plain k) = []
taken_by c (hopped r) = []
taken_by c (taken r) = if (eqb r.refusal 0) r.frame
taken_by c (drained r) = []
taken_by c (owing r) = []
taken_by c (saving k out) = []
taken_by c (decoded r) = []
taken_by c (encoded r) = []
taken_by c (polled r) = []
taken_by c (walked r t) = []

-- the device that a hop names
abbrev pub hopper : Action → ℕ
hopper (put f) = 0
hopper (hop i) = i
hopper take = 0
hopper (local i c) = 0
hopper (drain b) = 0
hopper owes = 0
hopper (save out) = 0

-- what a hop's answer tells: the byte handed, and the event
abbrev pub hop_tells : HopAnswer → List Got
hop_tells r = if (eqb r.handed 1) (got r.byte r.end) ++ if (not (eqb r.event 0)) (reported r.event)

-- and a drain's of its last hop: for reason 2 the byte, for reason 3 the event, which stands as the byte
abbrev pub drain_tells : DrainAnswer → List Got
drain_tells r = if (eqb r.reason 2) (got r.byte r.end) ++ if (eqb r.reason 3) (reported r.byte)

-- what is handed to device i, by a hop or at the end of a drain
abbrev pub handed_by : ℕ → Action → Answer → List Got
handed_by i c (plain k) = []
handed_by i c (hopped r) = cond (eqb i (hopper c)) (hop_tells r) []
handed_by i c (taken r) = []
handed_by i c (drained r) = cond (eqb i r.device) (drain_tells r) []
handed_by i c (owing r) = []
handed_by i c (saving k out) = []
handed_by i c (decoded r) = []
handed_by i c (encoded r) = []
handed_by i c (polled r) = []
handed_by i c (walked r t) = []

-- the hops made: one by a hop that was not refused, and as many as a drain says
abbrev pub hops_by : Action → Answer → ℕ
hops_by c (plain k) = 0
hops_by c (hopped r) = cond (eqb r.refusal 0) 1 0
hops_by c (taken r) = 0
hops_by c (drained r) = r.hops
hops_by c (owing r) = 0
hops_by c (saving k out) = 0
hops_by c (decoded r) = 0
hops_by c (encoded r) = 0
hops_by c (polled r) = 0
hops_by c (walked r t) = 0

-- what a hop that was not refused told, in the four bytes of a walk
abbrev pub told_by : Action → Answer → List ℕ
told_by c (plain k) = []
told_by c (hopped r) = cond (eqb r.refusal 0) (four_bytes r) []
told_by c (taken r) = []
told_by c (drained r) = []
told_by c (owing r) = []
told_by c (saving k out) = []
told_by c (decoded r) = []
told_by c (encoded r) = []
told_by c (polled r) = []
told_by c (walked r t) = []

-- the refused steps
abbrev pub refused_by : Step → Answer → ℕ
refused_by s r = cond (eqb (refusal_in r) 0) 0 1

-- ---- and off a whole history on an area

-- what is read off a call, and nothing where a loop was put away
abbrev pub of_call : {A : Type 0} → A → (Action → Answer → A) → Step → Answer → A
of_call nothing g (call c) r = g c r
of_call nothing g (away out lent) r = nothing

abbrev pub each : {A : Type 0} → (Step → Answer → List A) → List Step → List Answer → List A
each g [] rs = []
each g (s ∷ ss) [] = []
each g (s ∷ ss) (r ∷ rs) = g s r ++ each g ss rs

abbrev pub total : (Step → Answer → ℕ) → List Step → List Answer → ℕ
total g [] rs = 0
total g (s ∷ ss) [] = 0
total g (s ∷ ss) (r ∷ rs) = g s r + total g ss rs

module _ (a : List ℕ) (ss : List Step) where
  abbrev pub area_left : List ℕ
  area_left = (history a ss).0

  abbrev pub frames_put : List ℕ
  frames_put = each (of_call [] put_by) ss (history a ss).1

  abbrev pub frames_taken : List ℕ
  frames_taken = each (of_call [] taken_by) ss (history a ss).1

  abbrev pub all_handed : ℕ → List Got
  all_handed i = each (of_call [] (handed_by i)) ss (history a ss).1

  abbrev pub all_told : List ℕ
  all_told = each (of_call [] told_by) ss (history a ss).1

  abbrev pub hops_made : ℕ
  hops_made = total (of_call 0 hops_by) ss (history a ss).1

  abbrev pub steps_refused : ℕ
  steps_refused = total refused_by ss (history a ss).1

-- ---- The devices' turns. A drain does not answer which devices hopped, so turns are read off the run of the line of
-- devices

-- what a device is handed, if anything
abbrev pub handed_over : Handed → Option Got
handed_over handed.Nothing = none
handed_over (handed.Byte b e) = some (got b e)
handed_over handed.Clear = some (reported clear)
handed_over handed.Trigger = some (reported trigger)

-- the device after a local call that it accepts
abbrev pub accepted_by : Called → Option Device
accepted_by c = cond (eqb c.refusal 0) (some c.device) none

-- the line whose devices go by the papers' rules, as demand 2 has them
abbrev pub papers : line.Line
papers =
    record {
      State = Device;
      Frame = ℕ;
      Local = Local;
      Byte = Got;
      next = λ d f. (takes d f).device;
      send = λ d f. (takes d f).frame;
      hand = λ d f. handed_over (takes d f).handed;
      act = λ d c. accepted_by (called_by c d);
      depth = depth;
      deep = lit< tt;
    }

-- the call of the line that an action is; a put of what is no frame is none, and so is what only reads
abbrev pub calls : Action → List (line.Call papers)
calls (put f) = if (ltb f frames) (line.put f)
calls (hop i) = line.hop i ∷ []
calls take = line.take ∷ []
calls (local i c) = line.local i c ∷ []
calls (drain b) = line.drain b ∷ []
calls owes = []
calls (save out) = []

-- those of a step; a loop put away and opened is none
abbrev pub step_calls : Step → List (line.Call papers)
step_calls (call c) = calls c
step_calls (away out lent) = []

abbrev pub all_calls : List Step → List (line.Call papers)
all_calls [] = []
all_calls (s ∷ ss) = step_calls s ++ all_calls ss

-- the line of an area's devices and links
abbrev pub line_of : List ℕ → line.Loop papers
line_of a = line_up (loop_of a).links (loop_of a).devices

-- the turns of device i: its own hops and the local calls that it accepted, in order
abbrev pub turns_of : List ℕ → List Step → ℕ → List (Turn papers)
turns_of a ss i = turns (line.run (line_of a) (all_calls ss)).1 i

-- ---- and what a caller sees of them

-- the hop of device i that a call and its answer show
abbrev pub hop_seen : ℕ → Action → Answer → List (Turn papers)
hop_seen i (put f) r = []
hop_seen i (hop j) r = if (eqb i j && eqb (refusal_in r) 0) hops
hop_seen i take r = []
hop_seen i (local j c) r = []
hop_seen i (drain b) r = []
hop_seen i owes r = []
hop_seen i (save out) r = []

-- the local call that device i accepted
abbrev pub call_seen : ℕ → Action → Answer → List Local
call_seen i (put f) r = []
call_seen i (hop j) r = []
call_seen i take r = []
call_seen i (local j c) r = if (eqb i j && eqb (refusal_in r) 0) c
call_seen i (drain b) r = []
call_seen i owes r = []
call_seen i (save out) r = []

-- the turn of device i
abbrev pub turn_seen : ℕ → Action → Answer → List (Turn papers)
turn_seen i c r = hop_seen i c r ++ map (λ (x : Local). does x) (call_seen i c r)

abbrev pub is_drain : Action → Bool
is_drain (put f) = false
is_drain (hop i) = false
is_drain take = false
is_drain (local i c) = false
is_drain (drain b) = true
is_drain owes = false
is_drain (save out) = false

abbrev pub drains : Step → Bool
drains (call c) = is_drain c
drains (away out lent) = false

-- no call of a history is a drain
abbrev pub Drainless : List Step → Type 0
Drainless ss = Every (λ s. drains s ≡ false) ss

module _ (a : List ℕ) (ss : List Step) where
  abbrev pub turns_seen : ℕ → List (Turn papers)
  turns_seen i = each (of_call [] (turn_seen i)) ss (history a ss).1

  abbrev pub calls_seen : ℕ → List Local
  calls_seen i = each (of_call [] (call_seen i)) ss (history a ss).1

-- ---- Each frame right round before the next

-- a call of the line as an action, and several as steps
abbrev pub action : line.Call papers → Action
action (line.put f) = put f
action (line.hop i) = hop i
action line.take = take
action (line.local i c) = local i c
action (line.drain b) = drain b

abbrev pub as_steps : List (line.Call papers) → List Step
as_steps cs = map (λ c. call (action c)) cs

-- The same frames and the same turns, in turn:
module _ (a : List ℕ) (ss : List Step) where
  -- Where no link holds a frame: put; for each device its local calls up to there, then its hop; take; the next frame;
  -- at the end the local calls that are left.
  abbrev pub all_round : List Step
  all_round = as_steps (right_round (frames_put a ss) (first (count_in a) (turns_of a ss)))

  -- Where some do, their frames go before that, the nearer the tail the earlier: for each device ahead its local calls
  -- up to there, then its hop; take.
  abbrev pub in_turn : List Step
  in_turn = as_steps (one_by_one (line_of a) (frames_put a ss) (first (count_in a) (turns_of a ss)))
