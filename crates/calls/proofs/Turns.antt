-- The drain, turn by turn: which device is found, what its hop does, and what the whole drain then is.
use mathlib.Core.Path.{◌≡◌, refl, sym, ap, ◌∙◌}
use mathlib.Core.List.{List, [], tail}
use mathlib.Core.Bool.{Bool, true, false, cond, ◌&&◌}
use Prim.Native.Nat.{ℕ, zero, suc, ◌+◌, ◌-◌, ◌≤◌, ◌<◌}
use native.Mathlib.Omega.{arith}
use native.Mathlib.Numerals.{add-one}
use native.Mathlib.Nat.{not-suc-le-zero, sub-zero}
use lib.Dec.{eqb, ltb}
use lib.Seq.{get_or-set_other}
use lib.ListN.{length, set}
use borrow.Author.Tests.{lt-ltb, eqb-true, eqb-false, eq-eqb, ne_eqb}
use Rattle.std.specs.Prelude.{Option, Some, None, is_some}
use Rattle.record.specs.Fits.{Bytes}
use Rattle.area.specs.Loop.{Loop, loop_of, area_of, judge_of, size, link, SoundLoop, Holds}
use Rattle.area.specs.Lookup.{oldest_of, room_of}
use Rattle.area.proofs.Areas.{area_holds, loop_good, holds_of}
use Rattle.order.specs.Owed.{owed}
use Rattle.calls.specs.Outcome.{Outcome, refuse, done, after_of, Is, loop_after}
use Rattle.calls.specs.Calls.{at_place, of_oldest, into_room, no_hop, passes, passes_on, hop_from, hop_in}
use Rattle.calls.specs.Drain.{no_hop_left, budget_spent, byte_handed, event_reported, no_drain, can_from}
use Rattle.calls.specs.Drain.{can_hop, highest, stopped, handed_to, reported_by, turned, drain_from, drain_in}
use Rattle.calls.specs.declared.HopAnswer.{HopAnswer}
use Rattle.calls.specs.declared.DrainAnswer.{DrainAnswer}
use Rattle.calls.proofs.Kept.{hop_keeps}
use Rattle.calls.proofs.Outcomes.{IsDone}
use Rattle.calls.proofs.Owing.{hop_pays}

-- the area after a call
pub after_area : {A : Type 0} (deny : ℕ → A) (l : Loop) (a : List ℕ) (o : Outcome A) → a ≡ area_of l →
    (after_of deny a o).area ≡ area_of (loop_after l o)
after_area deny l a (refuse k) h = h
after_area deny l a (done r m) h = refl

-- ---- who can hop

pub can_both : (i : ℕ) (l : Loop) →
    can_hop i l ≡ (is_some (oldest_of (link l i)) && is_some (room_of (link l (suc i))))
unfolding can_hop
can_both i l = go (oldest_of (link l i))
  where
    go : (o : Option ℕ) → can_from i l o ≡ (is_some o && is_some (room_of (link l (suc i))))
    go None = refl
    go (Some f) = refl

pub highest_found : (k : ℕ) (l : Loop) → 0 < k → can_hop (k - 1) l ≡ true → highest k l ≡ Some (k - 1)
unfolding highest
highest_found zero l h t = absurd (not-suc-le-zero h)
highest_found (suc k) l h t = let e : suc k - 1 ≡ k = omega arith in rw (e, rw e at t)

pub highest_next : (k : ℕ) (l : Loop) → 0 < k → can_hop (k - 1) l ≡ false → highest k l ≡ highest (k - 1) l
unfolding highest
highest_next zero l h t = absurd (not-suc-le-zero h)
highest_next (suc k) l h t = let e : suc k - 1 ≡ k = omega arith in rw (e, rw e at t)

pub highest_none : (l : Loop) → highest 0 l ≡ None
unfolding highest
highest_none l = refl

-- a device that can hop does
pub can_done : (i : ℕ) (l : Loop) → i < size l → can_hop i l ≡ true → IsDone (hop_in i l)
unfolding hop_in can_hop
can_done i l h t = rw (lt-ltb _ _ h) (go (oldest_of (link l i)) t)
  where
    room : (f : ℕ) (r : Option ℕ) → is_some r ≡ true → IsDone (into_room (passes i f l) r)
    room f (Some n) c = tt
    room f None c = let z : ◌≡◌ {A = ℕ} 0 1 = cc in omega arith

    go : (o : Option ℕ) → can_from i l o ≡ true → IsDone (of_oldest (passes_on i l) o)
    go None c = let z : ◌≡◌ {A = ℕ} 0 1 = cc in omega arith
    go (Some f) c = room f (room_of (link l (suc i))) c

-- ---- who cannot

pub highest_past : (n k : ℕ) (l : Loop) → k ≤ n → ((j : ℕ) → k ≤ j → j < n → can_hop j l ≡ false) →
    highest n l ≡ highest k l
unfolding highest
highest_past zero k l h none = let e : k ≡ 0 = omega arith in rw e
highest_past (suc n) k l h none =
    go (eqb k (suc n)) refl (λ le. highest_past n k l le (λ j p q. none j p (omega arith)))
  where
    go : (t : Bool) → eqb k (suc n) ≡ t → (k ≤ n → highest n l ≡ highest k l) → highest (suc n) l ≡ highest k l
    go true e rest = rw (eqb-true k (suc n) e)
    go false e rest =
        let le : k ≤ n = omega (arith, h, eqb-false k (suc n) e) in rw (none n le (omega arith)) (rest le)

none_past : (n i : ℕ) (l : Loop) → highest n l ≡ Some i → (j : ℕ) → i < j → j < n → can_hop j l ≡ false
unfolding highest
none_past zero i l e j p q = absurd (not-suc-le-zero q)
none_past (suc n) i l e j p q = go (can_hop n l) refl e (λ s k. none_past n i l s j p k)
  where
    last : (t : Bool) → eqb j n ≡ t → can_hop n l ≡ false → (j < n → can_hop j l ≡ false) → can_hop j l ≡ false
    last true d f rest = rw (eqb-true j n d) f
    last false d f rest = rest (omega (arith, eqb-false j n d, q))

    go : (t : Bool) → can_hop n l ≡ t → cond t (Some n) (highest n l) ≡ Some i →
        (highest n l ≡ Some i → j < n → can_hop j l ≡ false) → can_hop j l ≡ false
    go true f s rest = let z : n ≡ i = cc in absurd (omega arith)
    go false f s rest = last (eqb j n) refl f (rest s)

-- a hop of device i leaves the links past the next
links_past : (i k : ℕ) (l : Loop) → suc i < k → link (loop_after l (hop_in i l)) k ≡ link l k
unfolding hop_in
links_past i k l h = go (ltb i (size l))
  where
    sent : (f : ℕ) (r : Option ℕ) → link (loop_after l (into_room (passes i f l) r)) k ≡ link l k
    sent f None = refl
    sent f (Some n) =
        get_or-set_other (set l.links i (tail (link l i))) (suc i) k _ [] (λ e. omega arith)
        ∙ get_or-set_other l.links i k (tail (link l i)) [] (λ e. omega arith)

    took : (o : Option ℕ) → link (loop_after l (of_oldest (passes_on i l) o)) k ≡ link l k
    took None = refl
    took (Some f) = sent f (room_of (link l (suc i)))

    go : (t : Bool) → link (loop_after l (at_place (hop_from l) (cond t (Some i) None))) k ≡ link l k
    go true = took (oldest_of (link l i))
    go false = refl

-- so whether a device past the next can hop
can_past : (i j : ℕ) (l : Loop) → suc i < j → can_hop j (loop_after l (hop_in i l)) ≡ can_hop j l
unfolding can_hop
can_past i j l h = rw (links_past i j l h) (go (oldest_of (link l j)))
  where
    go : (o : Option ℕ) → can_from j (loop_after l (hop_in i l)) o ≡ can_from j l o
    go None = refl
    go (Some f) = rw (links_past i (suc j) l (omega arith))

-- ---- the drain

module _ (h : ℕ) (l : Loop) where
  pub drain_none : (b : ℕ) → highest (size l) l ≡ None → drain_from b h l ≡ stopped no_hop_left h l
  unfolding drain_from
  drain_none zero e = rw e
  drain_none (suc b) e = rw e

  pub drain_spent : (b i : ℕ) → b ≡ 0 → highest (size l) l ≡ Some i → drain_from b h l ≡ stopped budget_spent h l
  unfolding drain_from
  drain_spent b i z e = rw (z, e)

  pub drain_turn : (b i : ℕ) → 0 < b → highest (size l) l ≡ Some i →
      drain_from b h l ≡ turned i h (drain_from (b - 1) (h + 1)) l (hop_in i l)
  unfolding drain_from
  drain_turn zero i z e = absurd (not-suc-le-zero z)
  drain_turn (suc b) i z e = let k : suc b - 1 ≡ b = omega arith in rw (e, k, add-one)

-- after a hop that answers r: a byte was handed over, or a clear or trigger was reported, or neither
module _ (a : List ℕ) (i h : ℕ) (next : Loop → Outcome DrainAnswer) (l : Loop) (r : HopAnswer) where
  pub turned_stop : (o : Outcome HopAnswer) → r ≡ (after_of no_hop a o).answer → r.handed ≡ 1 →
      turned i h next l o ≡ handed_to i (h + 1) r (loop_after l o)
  turned_stop (refuse k) e t = let x : ◌≡◌ {A = ℕ} 0 1 = sym (ap (λ (q : HopAnswer). q.handed) e)
      ∙ t in let y : ⊥ = omega arith in absurd y
  turned_stop (done q m) e t = rw (eq-eqb q.handed 1 (sym (ap (λ (q : HopAnswer). q.handed) e) ∙ t), e, add-one)

  pub turned_event : (o : Outcome HopAnswer) → IsDone o → r ≡ (after_of no_hop a o).answer → (r.handed ≡ 1 → ⊥) →
      (r.event ≡ 0 → ⊥) → turned i h next l o ≡ reported_by i (h + 1) r (loop_after l o)
  turned_event (refuse k) d e t n = absurd d
  turned_event (done q m) d e t n =
      rw (
        ne_eqb q.handed 1 (λ z. t (ap (λ (q : HopAnswer). q.handed) e ∙ z)),
        ne_eqb q.event 0 (λ z. n (ap (λ (q : HopAnswer). q.event) e ∙ z)),
        e,
        add-one,
      )

  pub turned_on : (o : Outcome HopAnswer) → IsDone o → r ≡ (after_of no_hop a o).answer → (r.handed ≡ 1 → ⊥) →
      r.event ≡ 0 → turned i h next l o ≡ next (loop_after l o)
  turned_on (refuse k) d e t n = absurd d
  turned_on (done q m) d e t n =
      rw (
        ne_eqb q.handed 1 (λ z. t (ap (λ (q : HopAnswer). q.handed) e ∙ z)),
        eq-eqb q.event 0 (sym (ap (λ (q : HopAnswer). q.event) e) ∙ n),
      )

-- ---- turns on an area

-- before a turn of a drain of area a₀, with a budget of b: n devices, h hops made, each of which paid one owed, and
-- what is left to do
pub record Turn (a₀ a : List ℕ) (b n h : ℕ) : Type 0 where
  pub holds : Holds a (loop_of a)
  pub sound : SoundLoop (loop_of a)
  pub count : n ≡ size (loop_of a)
  pub within : h ≤ b
  pub long : length a ≡ length a₀
  pub paid : h + owed (loop_of a).links ≡ owed (loop_of a₀).links
  pub rest : drain_from b 0 (loop_of a₀) ≡ drain_from (b - h) h (loop_of a)

pub first_turn : (a : List ℕ) (b n : ℕ) → Bytes a → judge_of a ≡ 0 → n ≡ size (loop_of a) → Turn a a b n 0
first_turn a b n small h e =
    record {
      holds = area_holds a small h;
      sound = loop_good a small h;
      count = e;
      within = omega arith;
      long = refl;
      paid = omega arith;
      rest = rw sub-zero;
    }

-- what the drain of a₀ answers
abbrev pub Drains : List ℕ → ℕ → DrainAnswer → List ℕ → Type 0
Drains a₀ b r x = Is (after_of no_drain a₀ (drain_in b (loop_of a₀))) r x

module _ (a₀ a : List ℕ) (b n h : ℕ) (t : Turn a₀ a b n h) where
  -- it stops before a hop
  module _ (d y z : ℕ) (none : (d ≡ 0) × (y ≡ 0) × (z ≡ 0)) where
    pub none_left : highest n (loop_of a) ≡ None →
        Drains a₀ b (record { hops = h; refusal = 0; reason = no_hop_left; device = d; byte = y; end = z }) a
    none_left e =
        rw (t.rest ∙ drain_none h (loop_of a) (b - h) (rw t.count at e), none.0, none.1, none.2)
        (refl, t.holds.written)

    pub none_more : (i : ℕ) → highest n (loop_of a) ≡ Some i → h ≡ b →
        Drains a₀ b (record { hops = h; refusal = 0; reason = budget_spent; device = d; byte = y; end = z }) a
    none_more i e k =
        rw (
          t.rest ∙ drain_spent h (loop_of a) (b - h) i (omega arith) (rw t.count at e),
          none.0,
          none.1,
          none.2,
        ) (refl, t.holds.written)

  -- or device i hops
  module _ (i : ℕ) (found : highest n (loop_of a) ≡ Some i) (there : i < n) (can : can_hop i (loop_of a) ≡ true)
      (more : h ≡ b → ⊥)
      (r : HopAnswer) (x : List ℕ) (is : Is (after_of no_hop a (hop_in i (loop_of a))) r x) where
    abbrev l : Loop
    l = loop_of a

    abbrev m : Loop
    m = loop_after l (hop_in i l)

    left : Holds x m
    left =
        rw (is.1 ∙ after_area no_hop l a (hop_in i l) t.holds.written) (holds_of m (hop_keeps i l t.sound).sound)

    turn : drain_from b 0 (loop_of a₀) ≡ turned i h (drain_from (b - h - 1) (h + 1)) l (hop_in i l)
    turn = t.rest ∙ drain_turn h l (b - h) i (omega (arith, t.within)) (rw t.count at found)

    pub handed_over : r.handed ≡ 1 →
        Drains a₀ b (record {
          hops = h + 1;
          refusal = 0;
          reason = byte_handed;
          device = i;
          byte = r.byte;
          end = r.end;
        }) x
    handed_over e =
        rw (turn ∙ turned_stop a i h (drain_from (b - h - 1) (h + 1)) l r (hop_in i l) is.0 e)
        (refl, left.written)

    did : IsDone (hop_in i (loop_of a))
    did = can_done i (loop_of a) (rw t.count at there) can

    pub event_seen : (z : ℕ) → z ≡ 0 → (r.handed ≡ 1 → ⊥) → (r.event ≡ 0 → ⊥) →
        Drains a₀ b (record {
          hops = h + 1;
          refusal = 0;
          reason = event_reported;
          device = i;
          byte = r.event;
          end = z;
        }) x
    event_seen z o e n =
        rw (turn ∙ turned_event a i h (drain_from (b - h - 1) (h + 1)) l r (hop_in i l) did is.0 e n, o)
        (refl, left.written)

    pub next_turn : (r.handed ≡ 1 → ⊥) → r.event ≡ 0 → length x ≡ length a → Turn a₀ x b n (h + 1)
    next_turn e o k =
        let s = hop_keeps i l t.sound in
        let p = hop_pays i l t.sound did in
        let d : b - (h + 1) ≡ b - h - 1 = omega arith in
        let f : loop_of x ≡ m = left.held in
        record {
          holds = rw f left;
          sound = rw f s.sound;
          count = rw f (t.count ∙ sym s.same);
          within = omega (arith, t.within);
          long = k ∙ t.long;
          paid = rw f (omega (arith, t.paid));
          rest = rw (f, d)
              (turn ∙ turned_on a i h (drain_from (b - h - 1) (h + 1)) l r (hop_in i l) did is.0 e o);
        }

    -- and no device past the next can hop
    pub next_top : (top : ℕ) → top ≡ n - (n - (i + 2)) → highest n (loop_of x) ≡ highest top (loop_of x)
    next_top top e =
        rw left.held
        (highest_past n top m (omega arith)
        (λ j p q. can_past i j l (omega arith) ∙ none_past n i l found j (omega arith) q))
