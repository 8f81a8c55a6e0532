-- What is read off a history: the frames put and taken, and for each device what was handed to it and its turns.
use Rattle.std.specs.Prelude.{ℕ, zero, suc, ◌+◌, List, [], ◌∷◌, ◌++◌}
use Rattle.std.proofs.Math.Option.{Option, none, some}
use Rattle.order.specs.Line.{Line, Event, refused, was_put, hopped, was_taken, called}

module _ (L : Line) where
  open L use {Local}

  -- A device's turns are all that it did, in order: `hops` for each of its hops, `does c` for each local call c that it
  -- accepted. A refused local call changes nothing and is no turn.
  pub data Turn : Type 0 where
    hops : Turn
    does : Local → Turn

-- xs if the two numbers are the same, else nothing
abbrev pub if_same : {A : Type 0} → ℕ → ℕ → List A → List A
if_same zero zero xs = xs
if_same zero (suc j) xs = []
if_same (suc i) zero xs = []
if_same (suc i) (suc j) xs = if_same i j xs

-- the sum of g at the numbers below n
abbrev pub sum_over : ℕ → (ℕ → ℕ) → ℕ
sum_over zero g = 0
sum_over (suc n) g = sum_over n g + g n

-- none or one, as a list
abbrev pub listed : {A : Type 0} → Option A → List A
listed none = []
listed (some a) = a ∷ []

module _ {L : Line} where
  open L use {Frame, Local, Byte}

  -- the local calls among a device's turns
  abbrev pub calls_in : List (Turn L) → List Local
  calls_in [] = []
  calls_in (hops ∷ t) = calls_in t
  calls_in (does c ∷ t) = c ∷ calls_in t

  -- and how many of them are hops
  abbrev pub hops_in : List (Turn L) → ℕ
  hops_in [] = 0
  hops_in (hops ∷ t) = suc (hops_in t)
  hops_in (does c ∷ t) = hops_in t

  -- ---- What one event adds

  abbrev pub put_by : Event L → List Frame
  put_by refused = []
  put_by (was_put f) = f ∷ []
  put_by (hopped j h) = []
  put_by (was_taken f) = []
  put_by (called j c) = []

  abbrev pub taken_by : Event L → List Frame
  taken_by refused = []
  taken_by (was_put f) = []
  taken_by (hopped j h) = []
  taken_by (was_taken f) = f ∷ []
  taken_by (called j c) = []

  abbrev pub handed_by : ℕ → Event L → List Byte
  handed_by i refused = []
  handed_by i (was_put f) = []
  handed_by i (hopped j h) = if_same i j (listed h)
  handed_by i (was_taken f) = []
  handed_by i (called j c) = []

  abbrev pub turn_by : ℕ → Event L → List (Turn L)
  turn_by i refused = []
  turn_by i (was_put f) = []
  turn_by i (hopped j h) = if_same i j (hops ∷ [])
  turn_by i (was_taken f) = []
  turn_by i (called j c) = if_same i j (does c ∷ [])

  abbrev pub hop_by : Event L → ℕ
  hop_by refused = 0
  hop_by (was_put f) = 0
  hop_by (hopped j h) = 1
  hop_by (was_taken f) = 0
  hop_by (called j c) = 0

  abbrev pub refusal_by : Event L → ℕ
  refusal_by refused = 1
  refusal_by (was_put f) = 0
  refusal_by (hopped j h) = 0
  refusal_by (was_taken f) = 0
  refusal_by (called j c) = 0

  -- ---- And all events together

  abbrev pub each : {A : Type 0} → (Event L → List A) → List (Event L) → List A
  each g [] = []
  each g (e ∷ es) = g e ++ each g es

  abbrev pub total : (Event L → ℕ) → List (Event L) → ℕ
  total g [] = 0
  total g (e ∷ es) = g e + total g es

  -- the frames put in, in order
  abbrev pub puts : List (Event L) → List Frame
  puts es = each put_by es

  -- the frames taken out, in order
  abbrev pub taken : List (Event L) → List Frame
  taken es = each taken_by es

  -- what was handed to device i, in order
  abbrev pub handed : List (Event L) → ℕ → List Byte
  handed es i = each (handed_by i) es

  -- The turns of device i. Two histories give it the same turns just if its accepted local calls are the same and stand
  -- at the same places among its own hops; what other devices did in between does not show.
  abbrev pub turns : List (Event L) → ℕ → List (Turn L)
  turns es i = each (turn_by i) es

  -- how many hops were made, in drains too
  abbrev pub hops_made : List (Event L) → ℕ
  hops_made es = total hop_by es

  -- how many calls were refused
  abbrev pub refusals : List (Event L) → ℕ
  refusals es = total refusal_by es
