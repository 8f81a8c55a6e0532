-- Empty links: a loop just set up has them, it owes nothing, no frame goes out before those put, and its first link
-- takes a frame.
use Prim.Native.Nat.{ℕ, suc}
use native.Mathlib.Omega.{arith}
use mathlib.Core.Path.{◌≡◌, refl, ap}
use mathlib.Core.Bool.{Bool, true, false, cond}
use mathlib.Core.Option.{none, some}
use mathlib.Core.List.{List, [], ◌∷◌}
use lib.ListN.{length}
use lib.Dec.{T, ltb, lt→ltb}
use Rattle.order.specs.Line.{Line, Loop, tail, cell, idle, devices, push}
use Rattle.order.specs.Flat.{links_of, states_of}
use Rattle.order.specs.Owed.{owed}
use Rattle.order.specs.History.{Turn}
use Rattle.order.specs.RightRound.{left_after, clear, right_round, one_by_one}

has_room : {A : Type 0} (b : Bool) → T b → (x : A) → cond b (some x) none ≡ some x
has_room true u x = refl
has_room false u x = elim u [ ]

module _ {L : Line} where
  open L use {Frame, depth, deep}

  -- all links are empty
  abbrev pub Empty : Loop L → Type 0
  Empty (tail q) = q ≡ []
  Empty (cell q s r) = (q ≡ []) × Empty r

  -- f alone in the first link
  abbrev pub onto : Loop L → Frame → Loop L
  onto (tail q) f = tail (f ∷ [])
  onto (cell q s r) f = cell (f ∷ []) s r

  pub push_onto : (l : Loop L) (f : Frame) → Empty l → push l f ≡ some (onto l f)
  push_onto (tail q) f z = rw z (has_room (ltb 0 depth) (lt→ltb 0 depth deep) (tail (f ∷ [])))
  push_onto (cell q s r) f z = rw z.0 (has_room (ltb 0 depth) (lt→ltb 0 depth deep) (cell (f ∷ []) s r))

module _ (L : Line) where
  open L use {State, Frame}

  pub idle_empty : (ss : List State) → Empty {L = L} (idle ss)
  idle_empty [] = refl
  idle_empty (s ∷ ss) = (refl, idle_empty ss)

  pub idle_owed : (ss : List State) → owed (links_of {L = L} (idle ss)) ≡ 0
  idle_owed [] = refl
  idle_owed (s ∷ ss) = omega (arith, idle_owed ss)

  pub idle_devices : (ss : List State) → devices {L = L} (idle ss) ≡ length ss
  idle_devices [] = refl
  idle_devices (s ∷ ss) = ap suc (idle_devices ss)

  pub idle_states : (ss : List State) → states_of {L = L} (idle ss) ≡ ss
  idle_states [] = refl
  idle_states (s ∷ ss) = ap (λ (x : List State). s ∷ x) (idle_states ss)

  -- right round is all that there is to do
  idle_clear : (i : ℕ) (ss : List State) (ts : List (List (Turn L))) → clear i (idle ss) ts ≡ []
  idle_clear i [] ts = refl
  idle_clear i (s ∷ ss) [] = refl
  idle_clear i (s ∷ ss) (t ∷ ts) = rw (idle_clear (suc i) ss ts)

  idle_left : (ss : List State) (ts : List (List (Turn L))) → left_after (idle ss) ts ≡ ts
  idle_left [] ts = refl
  idle_left (s ∷ ss) [] = refl
  idle_left (s ∷ ss) (t ∷ ts) = ap (λ (u : List (List (Turn L))). t ∷ u) (idle_left ss ts)

  pub idle_round : (ss : List State) (fs : List Frame) (ts : List (List (Turn L))) →
      one_by_one (idle ss) fs ts ≡ right_round fs ts
  idle_round ss fs ts = rw (idle_clear 0 ss ts, idle_left ss ts)
