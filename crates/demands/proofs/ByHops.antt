-- A drain comes to its hops on the area: a device can hop just where the table has no refusal for its hop, so that the
-- same one is the highest at each turn; and each hop leaves and answers the same.
use Prim.Native.Nat.{ℕ, zero, suc, ◌≤◌, ◌<◌}
use mathlib.Core.Path.{◌≡◌, refl, sym, ap, ◌∙◌}
use mathlib.Core.Bool.{Bool, true, false, not, cond}
use mathlib.Core.Option.{Option, none, some}
use mathlib.Core.List.{List, ◌++◌}
use native.Mathlib.Omega.{arith}
use lib.Dec.{eqb}
use borrow.Author.Tests.{lt-ltb, eq-eqb}
use Rattle.std.specs.Prelude
use Rattle.std.specs.Prelude.{Some, None, is_some}
use Rattle.area.specs.Loop.{Loop, count_in, size, loop_of, area_of, link, SoundLoop}
use Rattle.area.specs.Lookup.{oldest_of, room_of}
use Rattle.area.proofs.Laws.{area_back, loop_back, loop_sound}
use Rattle.calls.specs.Outcome.{Outcome, refuse, done, After, after, loop_after}
use Rattle.calls.specs.Calls.{of_oldest, into_room, no_hop, sent_by, passes, passes_on, hop_in}
use Rattle.calls.specs.Drain as loop
use Rattle.calls.specs.Drain.{no_hop_left, budget_spent, no_drain, can_from, can_hop, stopped, handed_to}
use Rattle.calls.specs.Drain.{reported_by, turned, on_place, drain_from, drain_in}
use Rattle.calls.specs.declared.HopAnswer.{HopAnswer}
use Rattle.calls.specs.declared.DrainAnswer.{DrainAnswer}
use Rattle.calls.proofs.Kept.{hop_keeps}
use Rattle.calls.proofs.Outcomes.{IsDone}
use Rattle.calls.proofs.Turns.{can_done}
use Rattle.demands.specs.Calls.{hop, drain, on_area, Answer, hopped, drained, acts, pil, refusal_in}
use Rattle.demands.specs.Histories.{got, reported, if, handed_by}
use Rattle.demands.specs.Demands.{Judged}
use Rattle.demands.specs.Drains.{can, highest_of, stops_before, once_hopped, by_hops}
use Rattle.demands.proofs.Tests.{size_is, hop_done}
use Rattle.demands.proofs.First.{demand_1}
use Rattle.demands.proofs.Settled.{settle, acts_on}
use Rattle.demands.proofs.Drains.{place}

-- an outcome on a loop comes to this on its area
abbrev Comes : Outcome DrainAnswer → After Answer → Type 0
Comes (refuse k) x = ⊥
Comes (done r m) x = after (drained r) (area_of m) ≡ x

moved : (o : Outcome DrainAnswer) (g : Answer → List ℕ → After Answer) (r s : Answer) (x y : List ℕ) → r ≡ s → x ≡ y →
    Comes o (g s y) → Comes o (g r x)
moved o g r s x y e f c = rw (e, f) c

-- ---- who hops

-- a hop's refusal, as its answer on the area has it
abbrev accepted : Loop → Outcome HopAnswer → Bool
accepted l o = eqb (refusal_in (settle hopped no_hop l o).1) 0

can_accepted : (l : Loop) (i : ℕ) → i < size l → accepted l (hop_in i l) ≡ can_hop i l
unfolding hop_in can_hop
can_accepted l i h = rw (lt-ltb _ _ h) (oldest (oldest_of (link l i)))
  where
    room : (f : ℕ) (r : Prelude.Option ℕ) → accepted l (into_room (passes i f l) r) ≡ is_some r
    room f (Some n) = rw (hop_done (sent_by i f l).frame (sent_by i f l).handed)
    room f None = refl

    oldest : (o : Prelude.Option ℕ) → accepted l (of_oldest (passes_on i l) o) ≡ can_from i l o
    oldest None = refl
    oldest (Some f) = room f (room_of (link l (suc i)))

module _ (l : Loop) (s : SoundLoop l) where
  can_is : (i : ℕ) → i < size l → can (area_of l) i ≡ can_hop i l
  can_is i h =
      ap (λ (k : ℕ). eqb k 0) (sym (demand_1.by_table (on_area (hop i)) (area_of l))
      ∙ ap (λ (r : Answer). refusal_in r) (acts_on l s (hop i)).1)
      ∙ can_accepted l i h

  highest_is : (k : ℕ) → k ≤ size l → loop.highest k l ≡ place (highest_of (area_of l) k)
  unfolding loop.highest
  highest_is zero h = refl
  highest_is (suc k) h = rw (can_is k (omega arith)) (go (can_hop k l) (highest_is k (omega arith)))
    where
      go : (t : Bool) → loop.highest k l ≡ place (highest_of (area_of l) k) →
          cond t (Some k) (loop.highest k l) ≡ place (cond t (some k) (highest_of (area_of l) k))
      go true e = refl
      go false e = e

  -- what is found is a device that can hop
  found : (k i : ℕ) → k ≤ size l → highest_of (area_of l) k ≡ some i → (i < size l) × (can_hop i l ≡ true)
  found zero i h e = let z : ◌≡◌ {A = ℕ} 0 1 = cc in absurd (omega arith)
  found (suc k) i h e = go (can (area_of l) k) refl e (λ q. found k i (omega arith) q)
    where
      go : (t : Bool) → can (area_of l) k ≡ t → cond t (some k) (highest_of (area_of l) k) ≡ some i →
          (highest_of (area_of l) k ≡ some i → (i < size l) × (can_hop i l ≡ true)) →
          (i < size l) × (can_hop i l ≡ true)
      go true c q v =
          let same : k ≡ i = cc in
          let here : k < size l = omega arith in rw (← same) (here, sym (can_is k here) ∙ c)
      go false c q v = v q

  pub count_is : count_in (area_of l) ≡ size l
  count_is = sym (size_is (area_of l)) ∙ ap size (loop_back l s)

-- ---- one turn

module _ (b h i : ℕ)
    (rest : (m : Loop) → SoundLoop m → Comes (drain_from b (suc h) m) (by_hops pil b (suc h) (area_of m))) where
  hop_told_comes : (r : HopAnswer) (m : Loop) → SoundLoop m →
      Comes (cond (eqb r.handed 1) (handed_to i (suc h) r m)
      (cond (eqb r.event 0) (drain_from b (suc h) m) (reported_by i (suc h) r m)))
      (once_hopped i (suc h) (by_hops pil b (suc h)) (handed_by i (hop i) (hopped r)) (area_of m))
  hop_told_comes r m s = rw (eq-eqb i i refl) (go (eqb r.handed 1) (eqb r.event 0))
    where
      go : (t u : Bool) →
          Comes (cond t (handed_to i (suc h) r m) (cond u (drain_from b (suc h) m) (reported_by i (suc h) r m)))
          (once_hopped i (suc h) (by_hops pil b (suc h))
          (if t (got r.byte r.end) ++ if (not u) (reported r.event)) (area_of m))
      go true u = refl
      go false true = rest m s
      go false false = refl

  hop_comes : (l : Loop) → SoundLoop l → i < size l → can_hop i l ≡ true →
      Comes (turned i h (drain_from b (suc h)) l (hop_in i l))
      (once_hopped i (suc h) (by_hops pil b (suc h)) (handed_by i (hop i) (acts (hop i) (area_of l)).answer)
      (acts (hop i) (area_of l)).area)
  hop_comes l s there c =
      let on = acts_on l s (hop i) in
      moved (turned i h (drain_from b (suc h)) l (hop_in i l))
      (λ r x. once_hopped i (suc h) (by_hops pil b (suc h)) (handed_by i (hop i) r) x) _ _ _ _ on.1 on.0
      (go (hop_in i l) (can_done i l there c) (hop_keeps i l s).sound)
    where
      go : (o : Outcome HopAnswer) → IsDone o → SoundLoop (loop_after l o) →
          Comes (turned i h (drain_from b (suc h)) l o)
          (once_hopped i (suc h) (by_hops pil b (suc h)) (handed_by i (hop i) (settle hopped no_hop l o).1)
          (area_of (settle hopped no_hop l o).0))
      go (refuse k) d k' = absurd d
      go (done r m) d k' = hop_told_comes r m k'

-- ---- the drain

comes : (b h : ℕ) (l : Loop) → SoundLoop l → Comes (drain_from b h l) (by_hops pil b h (area_of l))
unfolding drain_from area_of
comes zero h l s =
    rw (highest_is l s (size l) (omega arith), count_is l s) (go (highest_of (area_of l) (size l)))
  where
    go : (o : Option ℕ) → Comes (on_place (stopped no_hop_left h l) (λ i. stopped budget_spent h l) (place o))
        (elim o [ none ↦ stops_before 0 h (area_of l) | some i ↦ stops_before 1 h (area_of l) ])
    go none = refl
    go (some i) = refl
comes (suc b) h l s =
    rw (highest_is l s (size l) (omega arith), count_is l s)
    (go (highest_of (area_of l) (size l)) refl (λ m t. comes b (suc h) m t))
  where
    go : (o : Option ℕ) → highest_of (area_of l) (size l) ≡ o →
        ((m : Loop) → SoundLoop m → Comes (drain_from b (suc h) m) (by_hops pil b (suc h) (area_of m))) →
        Comes (on_place (stopped no_hop_left h l) (λ i. turned i h (drain_from b (suc h)) l (hop_in i l)) (place o))
        (elim o [
          | none ↦ stops_before 0 h (area_of l)
          | some i ↦ once_hopped i (suc h) (by_hops pil b (suc h))
              (handed_by i (hop i) (acts (hop i) (area_of l)).answer) (acts (hop i) (area_of l)).area
        ])
    go none e rest = refl
    go (some i) e rest = let f = found l s (size l) i (omega arith) e in hop_comes b h i rest l s f.0 f.1

-- on the area of a sound loop, and so on every area without a refusal
on_loop : (b : ℕ) (l : Loop) → SoundLoop l → acts (drain b) (area_of l) ≡ by_hops pil b 0 (area_of l)
on_loop b l s =
    let on = acts_on l s (drain b) in
    ap (λ (r : Answer). after r (acts (drain b) (area_of l)).area) on.1
    ∙ ap (λ (x : List ℕ). after (settle drained no_drain l (drain_in b l)).1 x) on.0
    ∙ go (drain_in b l) (comes b 0 l s)
  where
    go : (o : Outcome DrainAnswer) → Comes o (by_hops pil b 0 (area_of l)) →
        after (settle drained no_drain l o).1 (area_of (settle drained no_drain l o).0) ≡ by_hops pil b 0 (area_of l)
    go (refuse k) c = absurd c
    go (done r m) c = c

pub drain_hops : (b : ℕ) (a : List ℕ) → Judged a → acts (drain b) a ≡ by_hops pil b 0 a
drain_hops b a j = rw (area_back a j.bytes j.sound) at (on_loop b (loop_of a) (loop_sound a j.bytes j.sound))
