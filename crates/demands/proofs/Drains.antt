-- The drain on a loop is the drain of its line: the same device hops at each turn, and both stop for the same reason.
use Prim.Native.Nat.{ℕ, zero, suc, ◌+◌}
use mathlib.Core.Path.{◌≡◌, refl, ap, ◌∙◌}
use mathlib.Core.Bool.{Bool, true, false, not, cond, ◌&&◌}
use mathlib.Core.Option.{Option, none, some, map}
use mathlib.Core.List.{List, [], ◌∷◌, ◌++◌}
use native.Mathlib.Omega.{arith}
use lib.Dec.{eqb}
use lib.ListN.{length}
use Rattle.std.specs.Prelude
use Rattle.std.specs.Prelude.{Some, None, is_some}
use Rattle.area.specs.Loop.{Loop, size}
use Rattle.area.specs.Lookup.{oldest_of}
use Rattle.calls.specs.Outcome.{Outcome, done}
use Rattle.calls.specs.Calls.{hop_in}
use Rattle.calls.specs.Drain.{no_hop_left, budget_spent, can_from, can_hop, highest, stopped, handed_to}
use Rattle.calls.specs.Drain.{reported_by, turned, on_place, drain_from}
use Rattle.calls.specs.declared.HopAnswer.{HopAnswer}
use Rattle.calls.specs.declared.DrainAnswer.{DrainAnswer}
use Rattle.calls.proofs.Lined.{both_do}
use Rattle.order.specs.Line as line
use Rattle.order.specs.Flat as flat
use Rattle.order.specs.Flat.{Flat}
use Rattle.order.specs.History.{hops_made, listed}
use Rattle.order.proofs.Drain.{greatest_passes}
use Rattle.order.proofs.Flat.{same_flat}
use Rattle.demands.specs.Histories.{Got, got, reported, if, hop_tells, papers}
use Rattle.demands.proofs.Bridge.{loop_flat, to_loop, Alike, hop_alike}

-- ---- who hops

can_alike : (x : Flat papers) (i : ℕ) → can_hop i (loop_flat x) ≡ flat.can_flat x i
unfolding can_hop
can_alike x i = go (flat.link x i)
  where
    room : (fs : List ℕ) (t : Bool) → is_some (cond t (Some (length fs)) None) ≡ t
    room fs true = refl
    room fs false = refl

    go : (q : List ℕ) → can_from i (loop_flat x) (oldest_of q) ≡ (flat.holds q && flat.room x (suc i))
    go [] = refl
    go (f ∷ q) = room (flat.link x (suc i)) (flat.room x (suc i))

-- a device's number, or none, as a place
abbrev pub place : Option ℕ → Prelude.Option ℕ
place none = None
place (some i) = Some i

highest_up_to : (x : Flat papers) (k : ℕ) → highest k (loop_flat x) ≡ place (line.greatest (flat.can_flat x) k)
unfolding highest
highest_up_to x zero = refl
highest_up_to x (suc k) = rw (can_alike x k) (go (flat.can_flat x k) (highest_up_to x k))
  where
    go : (t : Bool) → highest k (loop_flat x) ≡ place (line.greatest (flat.can_flat x) k) →
        cond t (Some k) (highest k (loop_flat x)) ≡ place (cond t (some k) (line.greatest (flat.can_flat x) k))
    go true e = refl
    go false e = e

highest_alike : (l : line.Loop papers) → highest (size (to_loop l)) (to_loop l) ≡ place (line.highest l)
highest_alike l = highest_up_to (flat.flat l) (size (to_loop l)) ∙ ap place ((same_flat papers).same_highest l)

-- ---- the answer, by the hops made and the reason

abbrev pub drain_answer : ℕ → line.Stop papers → DrainAnswer
drain_answer h line.no_hop_made = record { hops = h; refusal = 0; reason = 0; device = 0; byte = 0; end = 0 }
drain_answer h line.spent = record { hops = h; refusal = 0; reason = 1; device = 0; byte = 0; end = 0 }
drain_answer h (line.handing i (got b e)) =
    record { hops = h; refusal = 0; reason = 2; device = i; byte = b; end = e }
drain_answer h (line.handing i (reported k)) =
    record { hops = h; refusal = 0; reason = 3; device = i; byte = k; end = 0 }

abbrev Drains : ℕ → Outcome DrainAnswer → line.Drained papers → Type 0
Drains h o d = o ≡ done (drain_answer (h + hops_made d.events) d.stop) (to_loop d.loop)

-- after one more hop
one_more : (h i : ℕ) (b : Option Got) (o : Outcome DrainAnswer) (d : line.Drained papers) → Drains (suc h) o d →
    Drains h o (line.hop_before i b d)
one_more h i b o d e =
    let z : suc h + hops_made d.events ≡ h + (1 + hops_made d.events) = omega arith in
    e ∙ ap (λ (n : ℕ). done (drain_answer n d.stop) (to_loop d.loop)) z

-- one turn: device i hops, and then the rest is as the line's
module _ (h i : ℕ) (next : Loop → Outcome DrainAnswer) (goOn : line.Loop papers → line.Drained papers)
    (rest : (m : line.Loop papers) → Drains (suc h) (next (to_loop m)) (goOn m)) where
  stop_told : (m : line.Loop papers) (x : Got) →
      Drains h (done (drain_answer (suc h) (line.handing i x)) (to_loop m)) (line.after_hop i goOn m (some x))
  stop_told m x =
      let z : suc h ≡ suc h + 0 = omega arith in
      one_more h i (some x) _ (line.stopped m (line.handing i x))
      (ap (λ (n : ℕ). done (drain_answer n (line.handing i x)) (to_loop m)) z)

  -- what the hop told is the one thing that happened at the device, or nothing
  hop_said : (m : line.Loop papers) (r : HopAnswer) (b : Option Got) → hop_tells r ≡ listed b →
      Drains h (cond (eqb r.handed 1) (handed_to i (suc h) r (to_loop m))
      (cond (eqb r.event 0) (next (to_loop m)) (reported_by i (suc h) r (to_loop m)))) (line.after_hop i goOn m b)
  hop_said m r b e = go b (eqb r.handed 1) (eqb r.event 0) e
    where
      go : (b : Option Got) (t u : Bool) →
          (if t (got r.byte r.end) ++ if (not u) (reported r.event)) ≡ listed b →
          Drains h (cond t (handed_to i (suc h) r (to_loop m))
          (cond u (next (to_loop m)) (reported_by i (suc h) r (to_loop m)))) (line.after_hop i goOn m b)
      go none false true e = one_more h i none _ (goOn m) (rest m)
      go none true u e = absurd (omega (arith, ap length e))
      go none false false e = absurd (omega (arith, ap length e))
      go (some x) true true e =
          let q : got r.byte r.end ≡ x = cc in rw (← q) (stop_told m (got r.byte r.end))
      go (some x) true false e = absurd (omega (arith, ap length e))
      go (some x) false true e = absurd (omega (arith, ap length e))
      go (some x) false false e = let q : reported r.event ≡ x = cc in rw (← q) (stop_told m (reported r.event))

  hop_turned : (l : line.Loop papers) (o : Outcome HopAnswer) (p : Option (line.Loop papers × Option Got)) →
      Alike HopAnswer (Option Got) (λ r b. (r.refusal ≡ 0) × (hop_tells r ≡ listed b)) o
      (map (λ q. (flat.flat q.0, q.1)) p) →
      line.accepts p ≡ true → Drains h (turned i h next (to_loop l) o) (line.hop_on i goOn l p)
  hop_turned l o none u a = let z : false ≡ true = a in let y : ◌≡◌ {A = ℕ} 0 1 = cc in absurd (omega arith)
  hop_turned l o (some q) (both_do r m x b e t) a = rw e (hop_said q.0 r q.1 t.1)

pub drained_alike : (b h : ℕ) (l : line.Loop papers) → Drains h (drain_from b h (to_loop l)) (line.draining b l)
unfolding drain_from
drained_alike zero h l = rw (highest_alike l) (go (line.highest l))
  where
    z : h ≡ h + 0
    z = omega arith

    go : (o : Option ℕ) →
        Drains h (on_place (stopped no_hop_left h (to_loop l)) (λ i. stopped budget_spent h (to_loop l)) (place o))
        (elim o [ none ↦ line.stopped l line.no_hop_made | some i ↦ line.stopped l line.spent ])
    go none = ap (λ (n : ℕ). done (drain_answer n line.no_hop_made) (to_loop l)) z
    go (some i) = ap (λ (n : ℕ). done (drain_answer n line.spent) (to_loop l)) z
drained_alike (suc b) h l = rw (highest_alike l) (go (line.highest l) refl (λ m. drained_alike b (suc h) m))
  where
    z : h ≡ h + 0
    z = omega arith

    go : (o : Option ℕ) → line.highest l ≡ o →
        ((m : line.Loop papers) → Drains (suc h) (drain_from b (suc h) (to_loop m)) (line.draining b m)) →
        Drains h (on_place (stopped no_hop_left h (to_loop l))
        (λ i. turned i h (drain_from b (suc h)) (to_loop l) (hop_in i (to_loop l))) (place o))
        (elim o [ none ↦ line.stopped l line.no_hop_made | some i ↦ line.hop_on i (line.draining b) l (line.hop_at l i) ])
    go none e rest = ap (λ (n : ℕ). done (drain_answer n line.no_hop_made) (to_loop l)) z
    go (some i) e rest =
        hop_turned h i (drain_from b (suc h)) (line.draining b) rest l (hop_in i (to_loop l)) (line.hop_at l i)
        (rw ((same_flat papers).same_hop l i) at (hop_alike i (flat.flat l)))
        (greatest_passes (line.can_hop l) (line.devices l) i e)
