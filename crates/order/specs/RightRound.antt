-- The history that every other is held to: each frame goes right round before the next, and each device has the turns
-- that it is to have. It is a list of calls like any other.
use Rattle.std.specs.Prelude.{ℕ, zero, suc, List, [], ◌∷◌, ◌++◌, map, length}
use Rattle.order.specs.Line.{Line, Loop, tail, cell, Call, put, hop, take, local}
use Rattle.order.specs.History.{Turn, hops, does}

module _ {L : Line} where
  open L use {Frame, Local}

  -- ---- Turns

  -- the turns of the first n devices, device 0's first
  abbrev pub first : ℕ → (ℕ → List (Turn L)) → List (List (Turn L))
  first zero T = []
  first (suc n) T = T 0 ∷ first n (λ i. T (suc i))

  -- the local calls that a device makes before its next hop
  abbrev pub before : List (Turn L) → List Local
  before [] = []
  before (hops ∷ t) = []
  before (does c ∷ t) = c ∷ before t

  -- its turns after that hop
  abbrev pub after : List (Turn L) → List (Turn L)
  after [] = []
  after (hops ∷ t) = t
  after (does c ∷ t) = after t

  -- ---- From a loop with empty links

  -- Device i makes these local calls.
  abbrev pub makes : ℕ → List Local → List (Call L)
  makes i [] = []
  makes i (c ∷ cs) = local i c ∷ makes i cs

  -- A frame in link i goes past devices i, i + 1, .., whose turns are ts: each makes its local calls, and hops.
  abbrev pub past : ℕ → List (List (Turn L)) → List (Call L)
  past i [] = []
  past i (t ∷ ts) = makes i (before t) ++ hop i ∷ past (suc i) ts

  -- All frames have gone round: each device makes the local calls that it has left.
  abbrev pub finish : ℕ → List (List (Turn L)) → List (Call L)
  finish i [] = []
  finish i (t ∷ ts) = makes i (before t) ++ finish (suc i) ts

  -- Each frame is put, goes past all devices and is taken out, and only then comes the next.
  abbrev pub right_round : List Frame → List (List (Turn L)) → List (Call L)
  right_round [] ts = finish 0 ts
  right_round (f ∷ fs) ts = put f ∷ past 0 ts ++ take ∷ right_round fs (map after ts)

  -- ---- From a loop with frames in its links: these go first, those nearest the tail before all

  -- Each of the n frames of link i goes past the devices ahead and is taken out, and only then comes the next.
  abbrev pub onward : ℕ → ℕ → List (List (Turn L)) → List (Call L)
  onward i zero ts = []
  onward i (suc n) ts = past i ts ++ take ∷ onward i n (map after ts)

  -- the turns that these devices have left then
  abbrev pub left_by : ℕ → List (List (Turn L)) → List (List (Turn L))
  left_by zero ts = ts
  left_by (suc n) ts = left_by n (map after ts)

  -- the turns left when the frames of all links are out
  abbrev pub left_after : Loop L → List (List (Turn L)) → List (List (Turn L))
  left_after (tail q) ts = ts
  left_after (cell q s r) [] = []
  left_after (cell q s r) (t ∷ ts) = left_by (length q) (t ∷ left_after r ts)

  -- The frames of all links go out; the first link of this part of the loop is link i.
  abbrev pub clear : ℕ → Loop L → List (List (Turn L)) → List (Call L)
  clear i (tail q) ts = onward i (length q) []
  clear i (cell q s r) [] = []
  clear i (cell q s r) (t ∷ ts) = clear (suc i) r ts ++ onward i (length q) (t ∷ left_after r ts)

  -- First the frames in the links, then the frames put, each right round.
  abbrev pub one_by_one : Loop L → List Frame → List (List (Turn L)) → List (Call L)
  one_by_one l fs ts = clear 0 l ts ++ right_round fs (left_after l ts)
