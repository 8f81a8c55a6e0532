-- The hops that the frames in the links still owe (02, k), and their laws; and that while a link holds a frame there is
-- a hop or a take to make.
use Rattle.std.specs.Prelude.{ℕ, suc, ◌+◌, ◌*◌, ◌≤◌, ◌≡◌, true, List, [], ◌∷◌, length, get_or}
use Rattle.std.proofs.Math.Option.{Option, some}
use Rattle.order.specs.Line.{Line, Loop, devices, hop_at, take_out, Call, Event, run, accepts}
use Rattle.order.specs.Flat.{Flat, links_of, hop_flat}
use Rattle.order.specs.History.{puts, hops_made}

-- For every frame in a link the devices ahead of it, summed. Ahead of a link are as many devices as further links
abbrev pub owed : {A : Type 0} → List (List A) → ℕ
owed [] = 0
owed (q ∷ qs) = length q * length qs + owed qs

-- ---- What changes it

module _ (L : Line) where
  open L use {Byte}

  -- After any history, its links empty or not, hops made and hops still owed are those owed at first, and one for every
  -- device for each frame put: so a put adds one for every device, a hop pays one, and nothing else changes them.
  abbrev pub Owed : Type 0
  Owed = (l l' : Loop L) (cs : List (Call L)) (es : List (Event L)) → run l cs ≡ (l', es)
      → hops_made es + owed (links_of l') ≡ owed (links_of l) + length (puts es) * devices l

  -- The same of a hop by numbers, where there is one link more than devices.
  abbrev pub HopPays : Type 0
  HopPays = (x y : Flat L) (i : ℕ) (h : Option Byte) → length x.links ≡ suc (length x.states)
      → hop_flat x i ≡ some (y, h) → owed y.links + 1 ≡ owed x.links

-- ---- How many there can be

-- With n devices, and at most d frames in each link, at most d times n (n + 1) / 2 hops are owed.
abbrev pub OwedAtMost : Type 1
OwedAtMost = (A : Type 0) (d n : ℕ) (qs : List (List A)) → length qs ≡ suc n → ((j : ℕ) → length (get_or qs j []) ≤ d)
    → 2 * owed qs ≤ d * (n * suc n)

-- ---- That a hop or a take can be made

module _ {L : Line} where
  -- some hop, or the take, is accepted
  pub data Progress (l : Loop L) : Type 0 where
    hop_accepted : (i : ℕ) → accepts (hop_at l i) ≡ true → Progress l
    take_accepted : accepts (take_out l) ≡ true → Progress l

module _ (L : Line) where
  -- While a link holds a frame, one is.
  abbrev pub NeverStuck : Type 0
  NeverStuck = (l : Loop L) (j : ℕ) → (get_or (links_of l) j [] ≡ [] → ⊥) → Progress l
