-- Devices in a line, each with the link that feeds it, and the calls on them (01, What is modelled and The calls).
-- What a device does with a frame is left open: all that is said here holds for any device rules.
use Rattle.std.specs.Prelude.{ℕ, zero, suc, ◌<◌, Bool, true, false, cond, List, [], ◌∷◌, ◌++◌, length, ltb}
use Rattle.std.proofs.Math.Option.{Option, none, some, map}

-- What a line is made of.
pub record Line : Type 1 where
  -- a device's record; a frame; a local call with its arguments; what is handed over, as a byte with its end bit
  pub State : Type 0
  pub Frame : Type 0
  pub Local : Type 0
  pub Byte : Type 0
  -- a device that takes a frame: its next state, the one frame that it sends, what it is handed, if anything
  pub next : State → Frame → State
  pub send : State → Frame → Frame
  pub hand : State → Frame → Option Byte
  -- a local call on a device: its next state, or none if the call is refused
  pub act : State → Local → Option State
  -- how many frames a link can hold: one at least
  pub depth : ℕ
  pub deep : 0 < depth

module _ (L : Line) where
  open L use {State, Frame, Local, Byte}

  -- A link (its oldest frame first), the device that it feeds, and so on. The last link is the tail and feeds none.
  pub data Loop : Type 0 where
    tail : List Frame → Loop
    cell : List Frame → State → Loop → Loop

  -- A call. Devices go by their number, 0 the first.
  pub data Call : Type 0 where
    put : Frame → Call
    hop : ℕ → Call
    take : Call
    local : ℕ → Local → Call
    drain : ℕ → Call

  -- What came of a call. Of a drain comes one `hopped` for each of its hops.
  pub data Event : Type 0 where
    refused : Event
    was_put : Frame → Event
    hopped : ℕ → Option Byte → Event
    was_taken : Frame → Event
    called : ℕ → Local → Event

  -- Why a drain stopped: 0, no device can hop; 1, the budget is spent; 2 or 3, that device was handed that.
  pub data Stop : Type 0 where
    no_hop_made : Stop
    spent : Stop
    handing : ℕ → Byte → Stop

  -- What a drain leaves, what happened in it, and why it stopped.
  pub record Drained : Type 0 where
    pub loop : Loop
    pub events : List Event
    pub stop : Stop

-- a call was accepted
abbrev pub accepts : {A : Type 0} → Option A → Bool
accepts none = false
accepts (some a) = true

-- the greatest number below n that passes the test
abbrev pub greatest : (ℕ → Bool) → ℕ → Option ℕ
greatest test zero = none
greatest test (suc i) = cond (test i) (some i) (greatest test i)

module _ {L : Line} where
  open L use {State, Frame, Local, Byte, next, send, hand, act, depth}

  -- ---- The loop

  -- all links empty, and the devices in these states: so set up leaves it
  abbrev pub idle : List State → Loop L
  idle [] = tail []
  idle (s ∷ ss) = cell [] s (idle ss)

  -- how many devices there are
  abbrev pub devices : Loop L → ℕ
  devices (tail q) = 0
  devices (cell q s r) = suc (devices r)

  -- ---- One call on it: none is a refusal

  -- f becomes the newest frame of the first link, unless that is full
  abbrev pub push : Loop L → Frame → Option (Loop L)
  push (tail q) f = cond (ltb (length q) depth) (some (tail (q ++ f ∷ []))) none
  push (cell q s r) f = cond (ltb (length q) depth) (some (cell (q ++ f ∷ []) s r)) none

  -- device i takes the oldest frame of its link and sends one into the next link,
  -- unless its link is empty or the next one is full
  abbrev pub hop_at : Loop L → ℕ → Option (Loop L × Option Byte)
  hop_at (tail q) i = none
  hop_at (cell [] s r) zero = none
  hop_at (cell (f ∷ q) s r) zero = map (λ r'. (cell q (next s f) r', hand s f)) (push r (send s f))
  hop_at (cell q s r) (suc i) = map (λ p. (cell q s p.0, p.1)) (hop_at r i)

  -- the oldest frame of the tail is taken out, unless the tail is empty
  abbrev pub take_out : Loop L → Option (Loop L × Frame)
  take_out (tail []) = none
  take_out (tail (f ∷ q)) = some (tail q, f)
  take_out (cell q s r) = map (λ p. (cell q s p.0, p.1)) (take_out r)

  -- device i makes the local call c, unless it refuses it
  abbrev pub call_at : Loop L → ℕ → Local → Option (Loop L)
  call_at (tail q) i c = none
  call_at (cell q s r) zero c = map (λ s'. cell q s' r) (act s c)
  call_at (cell q s r) (suc i) c = map (λ r'. cell q s r') (call_at r i c)

  -- ---- The drain

  abbrev pub can_hop : Loop L → ℕ → Bool
  can_hop l i = accepts (hop_at l i)

  -- the highest-numbered device that can hop
  abbrev pub highest : Loop L → Option ℕ
  highest l = greatest (can_hop l) (devices l)

  -- it has stopped and left l
  abbrev pub stopped : Loop L → Stop L → Drained L
  stopped l why = record { loop = l; events = []; stop = why }

  -- a hop of device i that handed h, and what the drain came to after it
  abbrev pub hop_before : ℕ → Option Byte → Drained L → Drained L
  hop_before i h d = record { loop = d.loop; events = hopped i h ∷ d.events; stop = d.stop }

  -- device i has hopped and left l: the drain stops just after a hop that handed something over, and else goes on
  abbrev pub after_hop : ℕ → (Loop L → Drained L) → Loop L → Option Byte → Drained L
  after_hop i goOn l none = hop_before i none (goOn l)
  after_hop i goOn l (some x) = hop_before i (some x) (stopped l (handing i x))

  -- device i hops (it can, so there is no refusal)
  abbrev pub hop_on : ℕ → (Loop L → Drained L) → Loop L → Option (Loop L × Option Byte) → Drained L
  hop_on i goOn l none = stopped l no_hop_made
  hop_on i goOn l (some p) = after_hop i goOn p.0 p.1

  -- The drain with budget b (01, The calls): before each hop it stops if no hop is possible, else if the budget is
  -- spent; else the highest-numbered device that can hop does.
  abbrev pub draining : ℕ → Loop L → Drained L
  draining zero l = elim (highest l) [ none ↦ stopped l no_hop_made | some i ↦ stopped l spent ]
  draining (suc b) l = elim (highest l) [ none ↦ stopped l no_hop_made | some i ↦ hop_on i (draining b) l (hop_at l i) ]

  -- ---- Any call, and a history of calls

  -- a refused call leaves the loop as it was
  abbrev pub reply : Loop L → Option (Loop L × Event L) → Loop L × List (Event L)
  reply l none = (l, refused ∷ [])
  reply l (some p) = (p.0, p.1 ∷ [])

  abbrev pub answer : Loop L → Call L → Loop L × List (Event L)
  answer l (put f) = reply l (map (λ l'. (l', was_put f)) (push l f))
  answer l (hop i) = reply l (map (λ p. (p.0, hopped i p.1)) (hop_at l i))
  answer l take = reply l (map (λ p. (p.0, was_taken p.1)) (take_out l))
  answer l (local i c) = reply l (map (λ l'. (l', called i c)) (call_at l i c))
  answer l (drain b) = ((draining b l).loop, (draining b l).events)

  -- the events es, and then what a history came to
  abbrev pub firstly : List (Event L) → Loop L × List (Event L) → Loop L × List (Event L)
  firstly es h = (h.0, es ++ h.1)

  -- one call after the other: the loop that they leave, and all that happened
  abbrev pub run : Loop L → List (Call L) → Loop L × List (Event L)
  run l [] = (l, [])
  run l (c ∷ cs) = firstly (answer l c).1 (run (answer l c).0 cs)
