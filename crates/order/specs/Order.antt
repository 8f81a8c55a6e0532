-- The theorems: the order of the calls does not matter (demand 3), whatever the devices do with a frame. That local
-- calls stay at the same places among a device's own hops is said by its turns (History.antt).
use Rattle.std.specs.Prelude.{ℕ, ◌+◌, ◌*◌, ◌≤◌, ◌≡◌, true, List, [], ◌∷◌, ◌++◌, map, length}
use Rattle.std.proofs.Math.Option.{none, some}
use Rattle.order.specs.Line.{Line, Loop, idle, devices, accepts, highest, Call, hop, Event, hopped, Stop}
use Rattle.order.specs.Line.{no_hop_made, spent, handing, draining, run}
use Rattle.order.specs.Flat.{links_of}
use Rattle.order.specs.History.{if_same, sum_over, hops_in, puts, taken, handed, turns, hops_made, refusals}
use Rattle.order.specs.RightRound.{first, right_round, one_by_one}
use Rattle.order.specs.Owed.{owed}

-- The calls ref on l come to the same as a history on l that left l' and in which es happened:
pub record SameAs {L : Line} (l : Loop L) (ref : List (Call L)) (l' : Loop L) (es : List (Event L)) : Type 0 where
  pub events : List (Event L)
  -- they leave the same loop,
  pub ran : run l ref ≡ (l', events)
  -- none of them is refused,
  pub accepted : refusals events ≡ 0
  -- they put the same frames and give each device the same turns,
  pub same_puts : puts events ≡ puts es
  pub same_turns : (i : ℕ) → turns events i ≡ turns es i
  -- the same frames are taken out, and each device is handed the same.
  pub same_taken : taken events ≡ taken es
  pub same_handed : (i : ℕ) → handed events i ≡ handed es i

module _ (L : Line) where
  open L use {State, Byte}

  -- ---- Demand 3

  -- Any calls on a loop just set up, some perhaps refused, that leave all links empty come to the same as each frame
  -- right round before the next, with the same turns of each device; and the hops made are frames times devices.
  abbrev pub AnyOrder : Type 0
  AnyOrder = (ss ss' : List State) (cs : List (Call L)) (es : List (Event L)) → run (idle ss) cs ≡ (idle ss', es)
      → SameAs (idle ss) (right_round (puts es) (first (length ss) (turns es))) (idle ss') es
      × (hops_made es ≡ length (puts es) * length ss)

  -- The same from any loop. The frames in its links go round first, those nearest the tail before all, and add only the
  -- hops that they still owe.
  abbrev pub FromAnyLoop : Type 0
  FromAnyLoop = (l : Loop L) (ss' : List State) (cs : List (Call L)) (es : List (Event L)) → run l cs ≡ (idle ss', es)
      → SameAs l (one_by_one l (puts es) (first (devices l) (turns es))) (idle ss') es
      × (hops_made es ≡ owed (links_of l) + length (puts es) * devices l)

  -- Two histories from one loop that put the same frames, give each device the same turns and leave all links empty
  -- agree: in the devices, the frames taken out, what is handed to each device and the number of hops.
  abbrev pub Agree : Type 0
  Agree = (l : Loop L) (ss₁ ss₂ : List State) (cs₁ cs₂ : List (Call L)) (es₁ es₂ : List (Event L))
      → run l cs₁ ≡ (idle ss₁, es₁) → run l cs₂ ≡ (idle ss₂, es₂)
      → puts es₁ ≡ puts es₂ → ((i : ℕ) → turns es₁ i ≡ turns es₂ i)
      → (ss₁ ≡ ss₂) × (taken es₁ ≡ taken es₂) × ((i : ℕ) → handed es₁ i ≡ handed es₂ i) × (hops_made es₁ ≡ hops_made es₂)

  -- The hops in the turns of all devices, together, are the hops made.
  abbrev pub TurnsAddUp : Type 0
  TurnsAddUp = (l l' : Loop L) (cs : List (Call L)) (es : List (Event L)) → run l cs ≡ (l', es)
      → sum_over (devices l) (λ i. hops_in (turns es i)) ≡ hops_made es

  -- ---- The drain

  -- A drain is a row of hops, none of them refused.
  abbrev pub DrainIsHops : Type 0
  DrainIsHops = (b : ℕ) (l : Loop L)
      → (is : List ℕ) × (run l (map hop is) ≡ ((draining b l).loop, (draining b l).events))
      × (refusals (draining b l).events ≡ 0)

  -- what a stop says of a drain with the budget b that left l and in which es happened
  abbrev pub Says : Stop L → ℕ → Loop L → List (Event L) → Type 0
  Says no_hop_made b l es = highest l ≡ none
  Says spent b l es = (hops_made es ≡ b) × (accepts (highest l) ≡ true)
  Says (handing j x) b l es = (es₀ : List (Event L)) × (es ≡ es₀ ++ hopped j (some x) ∷ [])

  -- what a stop says was handed to device i
  abbrev pub handed_at : ℕ → Stop L → List Byte
  handed_at i no_hop_made = []
  handed_at i spent = []
  handed_at i (handing j x) = if_same i j (x ∷ [])

  -- a drain with the budget b on l made no more hops, what it says on stopping is so, and it handed that alone
  pub record TrueStop (b : ℕ) (l : Loop L) : Type 0 where
    pub within : hops_made (draining b l).events ≤ b
    pub so : Says (draining b l).stop b (draining b l).loop (draining b l).events
    pub alone : (i : ℕ) → handed (draining b l).events i ≡ handed_at i (draining b l).stop

  -- Every drain stops as 01 has it.
  abbrev pub DrainStops : Type 0
  DrainStops = (b : ℕ) (l : Loop L) → TrueStop b l
