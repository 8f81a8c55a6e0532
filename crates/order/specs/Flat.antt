-- The calls once more, by the numbers of links and devices, as an area has them. They are the calls of Line.antt, so
-- what is proved of a line holds of areas.
use Rattle.std.specs.Prelude.{ℕ, suc, ◌≡◌, Bool, true, false, cond, ◌&&◌, List, [], ◌∷◌, ◌++◌, length, get_or, set, ltb}
use Rattle.std.proofs.Math.Option.{Option, none, some, map}
use Rattle.std.proofs.Math.ListN.{get_elem?}
use Rattle.order.specs.Line.{Line, Loop, tail, cell, devices, push, hop_at, take_out, call_at, greatest, highest}

-- all links, link 0 first, and all devices' states
pub record Flat (L : Line) : Type 0 where
  pub links : List (List L.Frame)
  pub states : List L.State

-- a link holds a frame
abbrev pub holds : {A : Type 0} → List A → Bool
holds [] = false
holds (f ∷ q) = true

module _ {L : Line} where
  open L use {State, Frame, Local, Byte, next, send, hand, act, depth}

  -- ---- A loop laid flat, and lined up again

  abbrev pub links_of : Loop L → List (List Frame)
  links_of (tail q) = q ∷ []
  links_of (cell q s r) = q ∷ links_of r

  abbrev pub states_of : Loop L → List State
  states_of (tail q) = []
  states_of (cell q s r) = s ∷ states_of r

  abbrev pub flat : Loop L → Flat L
  flat l = record { links = links_of l; states = states_of l }

  abbrev pub line_up : List (List Frame) → List State → Loop L
  line_up [] ss = tail []
  line_up (q ∷ ls) [] = tail q
  line_up (q ∷ ls) (s ∷ ss) = cell q s (line_up ls ss)

  -- ---- Its parts by their number

  abbrev pub link : Flat L → ℕ → List Frame
  link x i = get_or x.links i []

  abbrev pub room : Flat L → ℕ → Bool
  room x i = ltb (length (link x i)) depth

  abbrev pub set_link : ℕ → List Frame → Flat L → Flat L
  set_link i q x = record { links = set x.links i q; states = x.states }

  abbrev pub set_state : ℕ → State → Flat L → Flat L
  set_state i s x = record { links = x.links; states = set x.states i s }

  -- f becomes the newest frame of link i
  abbrev pub add : ℕ → Frame → Flat L → Flat L
  add i f x = set_link i (link x i ++ f ∷ []) x

  -- ---- The calls

  -- put: into link 0, if that has room
  abbrev pub put_flat : Flat L → Frame → Option (Flat L)
  put_flat x f = cond (room x 0) (some (add 0 f x)) none

  -- hop i, by the state of device i, if there is one, and the frames of link i
  abbrev pub hop_from : Flat L → ℕ → Option State → List Frame → Option (Flat L × Option Byte)
  hop_from x i none q = none
  hop_from x i (some s) [] = none
  hop_from x i (some s) (f ∷ q) =
      cond (room x (suc i)) (some (add (suc i) (send s f) (set_link i q (set_state i (next s f) x)), hand s f)) none

  abbrev pub hop_flat : Flat L → ℕ → Option (Flat L × Option Byte)
  hop_flat x i = hop_from x i (get_elem? x.states i) (link x i)

  -- take, by the frames of the tail, whose number is that of the devices
  abbrev pub take_from : Flat L → List Frame → Option (Flat L × Frame)
  take_from x [] = none
  take_from x (f ∷ q) = some (set_link (length x.states) q x, f)

  abbrev pub take_flat : Flat L → Option (Flat L × Frame)
  take_flat x = take_from x (link x (length x.states))

  -- a local call of device i, by its state, if there is such a device
  abbrev pub call_from : Flat L → ℕ → Local → Option State → Option (Flat L)
  call_from x i c none = none
  call_from x i c (some s) = map (λ s'. set_state i s' x) (act s c)

  abbrev pub call_flat : Flat L → ℕ → Local → Option (Flat L)
  call_flat x i c = call_from x i c (get_elem? x.states i)

  -- device i can hop: its link holds a frame, and the next link has room
  abbrev pub can_flat : Flat L → ℕ → Bool
  can_flat x i = holds (link x i) && room x (suc i)

  abbrev pub highest_flat : Flat L → Option ℕ
  highest_flat x = greatest (can_flat x) (length x.states)

-- ---- The theorem

-- Each call on a loop laid flat is the loop's own call, laid flat.
pub record SameFlat (L : Line) : Type 0 where
  pub same_put : (l : Loop L) (f : L.Frame) → put_flat (flat l) f ≡ map (λ l'. flat l') (push l f)
  pub same_hop : (l : Loop L) (i : ℕ) → hop_flat (flat l) i ≡ map (λ p. (flat p.0, p.1)) (hop_at l i)
  pub same_take : (l : Loop L) → take_flat (flat l) ≡ map (λ p. (flat p.0, p.1)) (take_out l)
  pub same_call : (l : Loop L) (i : ℕ) (c : L.Local)
      → call_flat (flat l) i c ≡ map (λ l'. flat l') (call_at l i c)
  -- the highest-numbered device that can hop is the same, and so is the number of devices
  pub same_highest : (l : Loop L) → highest_flat (flat l) ≡ highest l
  pub same_devices : (l : Loop L) → length (states_of l) ≡ devices l
  -- every loop is laid flat and lined up again, and so is every row of links that has one link more than devices
  pub same_loop : (l : Loop L) → line_up (links_of l) (states_of l) ≡ l
  pub same_rows : (x : Flat L) → length x.links ≡ suc (length x.states) → flat (line_up x.links x.states) ≡ x
