-- The drain's next device can hop, since that is what it was looked for by; so each of its hops is accepted, and it
-- goes on after a hop only if that hop handed nothing.
use Prim.Native.Nat.{ℕ, zero, suc, ◌≤◌}
use native.Mathlib.Omega.{arith}
use mathlib.Core.Path.{◌≡◌, refl, ap}
use mathlib.Core.Bool.{Bool, true, false, cond, false≢true}
use mathlib.Core.Option.{Option, none, some}
use mathlib.Core.List.{List, [], ◌∷◌, map, append-nil}
use Rattle.order.specs.Line.{Line, Loop, devices, hop_at, accepts, greatest, can_hop, highest, hop, Event, hopped}
use Rattle.order.specs.Line.{Stop, Drained, no_hop_made, spent, handing, stopped, hop_before, after_hop, hop_on}
use Rattle.order.specs.Line.{draining, run}
use Rattle.order.specs.History.{if_same, handed, hops_made, refusals}
use Rattle.order.specs.Order.{DrainIsHops, Says, handed_at, DrainStops}
use Rattle.order.proofs.Moves.{one_more, hop_answer}

-- what passes the test at the greatest number that does
pub greatest_passes : (test : ℕ → Bool) (n i : ℕ) → greatest test n ≡ some i → test i ≡ true
greatest_passes test zero i e = cc
greatest_passes test (suc n) i e = go (test n) refl e (λ e. greatest_passes test n i e)
  where
    go : (b : Bool) → test n ≡ b → cond b (some n) (greatest test n) ≡ some i
        → (greatest test n ≡ some i → test i ≡ true) → test i ≡ true
    go true h e v = let same : n ≡ i = cc in rw same at h
    go false h e v = v e

pub none_same : {A : Type 0} (i j : ℕ) → if_same {A = A} i j [] ≡ []
none_same zero zero = refl
none_same zero (suc j) = refl
none_same (suc i) zero = refl
none_same (suc i) (suc j) = none_same i j

module _ {L : Line} where
  open L use {Byte}

  -- A drain with the budget b on l, hop by hop.
  data Drains : ℕ → Loop L → Drained L → Type 0 where
    at_rest : {b : ℕ} {l : Loop L} → highest l ≡ none → Drains b l (stopped l no_hop_made)
    at_budget : {l : Loop L} → accepts (highest l) ≡ true → Drains 0 l (stopped l spent)
    at_byte : {b : ℕ} {l l' : Loop L} {x : Byte} (i : ℕ) → hop_at l i ≡ some (l', some x)
        → Drains (suc b) l (hop_before i (some x) (stopped l' (handing i x)))
    on : {b : ℕ} {l l' : Loop L} {d : Drained L} (i : ℕ) → hop_at l i ≡ some (l', none) → Drains b l' d
        → Drains (suc b) l (hop_before i none d)

  after_hop_lem : (b i : ℕ) (l l' : Loop L) (h : Option Byte) → hop_at l i ≡ some (l', h) → Drains b l' (draining b l')
      → Drains (suc b) l (after_hop i (draining b) l' h)
  after_hop_lem b i l l' none e v = on i e v
  after_hop_lem b i l l' (some x) e v = at_byte i e

  hop_on_lem : (b i : ℕ) (l : Loop L) (o : Option (Loop L × Option Byte)) → hop_at l i ≡ o → accepts o ≡ true
      → ((l' : Loop L) → Drains b l' (draining b l')) → Drains (suc b) l (hop_on i (draining b) l o)
  hop_on_lem b i l none e a v = absurd (false≢true a)
  hop_on_lem b i l (some p) e a v = after_hop_lem b i l p.0 p.1 e (v p.0)

  drains : (b : ℕ) (l : Loop L) → Drains b l (draining b l)
  drains zero l = go (highest l) refl
    where
      go : (o : Option ℕ) → highest l ≡ o → Drains 0 l (elim o [ none ↦ stopped l no_hop_made | some i ↦ stopped l spent ])
      go none e = at_rest e
      go (some i) e = at_budget {l = l} (ap (λ (o : Option ℕ). accepts o) e)
  drains (suc b) l = go (highest l) refl (λ l'. drains b l')
    where
      go : (o : Option ℕ) → highest l ≡ o → ((l' : Loop L) → Drains b l' (draining b l'))
          → Drains (suc b) l (elim o [ none ↦ stopped l no_hop_made | some i ↦ hop_on i (draining b) l (hop_at l i) ])
      go none e v = at_rest e
      go (some i) e v = hop_on_lem b i l (hop_at l i) refl (greatest_passes (can_hop l) (devices l) i e) v

  hops_of : {b : ℕ} {l : Loop L} {d : Drained L} → Drains b l d
      → (is : List ℕ) × (run l (map hop is) ≡ (d.loop, d.events)) × (refusals d.events ≡ 0)
  hops_of (at_rest e) = ([], refl, refl)
  hops_of (at_budget e) = ([], refl, refl)
  hops_of (at_byte {l = l} {l' = l'} {x = x} i e) =
      (i ∷ [], one_more l l' l' (hop i) [] (hopped i (some x)) [] (hop_answer l i e) refl, refl)
  hops_of (on {l = l} {l' = l'} {d = d} i e v) = let u = hops_of v in
      let ran = one_more l l' d.loop (hop i) (map hop u.0) (hopped i none) d.events (hop_answer l i e) in
      (i ∷ u.0, ran u.1, omega (arith, u.2))

  one_hop_more : (why : Stop L) (b i : ℕ) (l : Loop L) (es : List (Event L)) → Says L why b l es
      → Says L why (suc b) l (hopped i none ∷ es)
  one_hop_more no_hop_made b i l es s = s
  one_hop_more spent b i l es s = (omega (arith, s.0), s.1)
  one_hop_more (handing j x) b i l es s =
      (hopped i none ∷ s.0, ap (λ (fs : List (Event L)). hopped i none ∷ fs) s.1)

  stop_of : {b : ℕ} {l : Loop L} {d : Drained L} → Drains b l d
      → (hops_made d.events ≤ b) × Says L d.stop b d.loop d.events
      × ((i : ℕ) → handed d.events i ≡ handed_at L i d.stop)
  stop_of (at_rest e) = (omega arith, e, λ i. refl)
  stop_of (at_budget e) = (omega arith, (refl, e), λ i. refl)
  stop_of (at_byte {x = x} i e) = (omega arith, ([], refl), λ k. append-nil _)
  stop_of (on {b = b} {l' = l'} {d = d} i e v) = let u = stop_of v in
      (omega (arith, u.0), one_hop_more d.stop b i d.loop d.events u.1, λ k. rw (none_same k i) (u.2 k))

module _ (L : Line) where
  pub drain_is_hops : DrainIsHops L
  drain_is_hops b l = hops_of (drains b l)

  pub drain_stops : DrainStops L
  drain_stops b l = let u = stop_of (drains b l) in record { within = u.0; so = u.1; alone = u.2 }
