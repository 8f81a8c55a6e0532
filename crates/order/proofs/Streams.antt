-- Whatever the order of the calls, each link carries one stream of frames: what goes into it comes out in that order,
-- and a device turns the stream of its link into that of the next by its own turns alone.
use Prim.Native.Nat.{ℕ, zero, suc, ◌+◌, ◌*◌}
use native.Mathlib.Omega.{arith}
use mathlib.Core.Path.{◌≡◌, refl, ap}
use mathlib.Core.Bool.{Bool, true, false, cond}
use mathlib.Core.Option
use mathlib.Core.Option.{Option, none, some}
use mathlib.Core.List.{List, [], ◌∷◌, ◌++◌, map, append-nil, append_assoc}
use lib.ListN.{length, length-append}
use lib.Dec.{ltb}
use Rattle.order.specs.Line.{Line, Loop, tail, cell, devices, push, hop_at, take_out, call_at}
use Rattle.order.specs.Line.{Call, put, hop, take, local, drain, Event, refused, was_put, hopped, was_taken}
use Rattle.order.specs.Line.{called}
use Rattle.order.specs.Line.{reply, answer, run}
use Rattle.order.specs.History.{Turn, hops, does, listed, put_by, taken_by, handed_by, turn_by, hop_by}
use Rattle.order.specs.History.{puts, taken, handed, turns, hops_made}
use Rattle.order.specs.Flat.{links_of}
use Rattle.order.specs.Owed.{owed}
use Rattle.order.proofs.Drain.{drain_is_hops}
use Rattle.order.proofs.Flat.{links_long}

joins : {A : Type 0} (q X X' o o' q' q'' : List A) → q ++ X ≡ o ++ q' → q' ++ X' ≡ o' ++ q''
    → q ++ (X ++ X') ≡ (o ++ o') ++ q''
joins q X X' o o' q' q'' e e' = rw (← append_assoc q X X', e, append_assoc o q' X', e', append_assoc o o' q'')

neither : {A : Type 0} (xs ys : List A) → xs ≡ [] → ys ≡ [] → xs ++ ys ≡ []
neither xs ys e e' = rw (e, e')

module _ {L : Line} where
  open L use {State, Frame, Local, Byte, next, send, hand, act, depth}

  -- A device goes from s to s' by the turns ts, takes the frames xs, sends ys and is handed hs.
  pub data Ran : State → List (Turn L) → List Frame → State → List Frame → List Byte → Type 0 where
    stays : {s : State} → Ran s [] [] s [] []
    hopping : {s s' : State} {f : Frame} {ts : List (Turn L)} {xs ys : List Frame} {hs : List Byte}
        → Ran (next s f) ts xs s' ys hs → Ran s (hops ∷ ts) (f ∷ xs) s' (send s f ∷ ys) (listed (hand s f) ++ hs)
    acting : {s s₁ s' : State} {c : Local} {ts : List (Turn L)} {xs ys : List Frame} {hs : List Byte}
        → act s c ≡ some s₁ → Ran s₁ ts xs s' ys hs → Ran s (does c ∷ ts) xs s' ys hs

  ran_trans : {s s' s'' : State} {ts us : List (Turn L)} {xs ys xs' ys' : List Frame} {hs hs' : List Byte}
      → Ran s ts xs s' ys hs → Ran s' us xs' s'' ys' hs' → Ran s (ts ++ us) (xs ++ xs') s'' (ys ++ ys') (hs ++ hs')
  ran_trans stays k = k
  ran_trans (hopping r) k = rw append_assoc (hopping (ran_trans r k))
  ran_trans (acting e r) k = acting e (ran_trans r k)

  -- The frames X go into the first link, device k makes the turns T k and is handed G k, and o comes out of the tail.
  -- A link that held q and holds q' has let xs through: q ++ X ≡ xs ++ q'.
  pub data Flows : (ℕ → List (Turn L)) → (ℕ → List Byte) → List Frame → List Frame → Loop L → Loop L → Type 0 where
    at_tail : {T : ℕ → List (Turn L)} {G : ℕ → List Byte} {o X q q' : List Frame}
        → ((k : ℕ) → T k ≡ []) → ((k : ℕ) → G k ≡ []) → q ++ X ≡ o ++ q' → Flows T G o X (tail q) (tail q')
    at_cell : {T : ℕ → List (Turn L)} {G : ℕ → List Byte} {o X q q' : List Frame} {s s' : State} {r r' : Loop L}
        (xs ys : List Frame) → q ++ X ≡ xs ++ q' → Ran s (T 0) xs s' ys (G 0)
        → Flows (λ k. T (suc k)) (λ k. G (suc k)) o ys r r' → Flows T G o X (cell q s r) (cell q' s' r')

  pub flows_refl : (l : Loop L) → Flows (λ k. []) (λ k. []) [] [] l l
  flows_refl (tail q) = at_tail (λ k. refl) (λ k. refl) (append-nil q)
  flows_refl (cell q s r) = at_cell [] [] (append-nil q) stays (flows_refl r)

  pub flows_trans : {T T' : ℕ → List (Turn L)} {G G' : ℕ → List Byte} {o o' X X' : List Frame} {l l' l'' : Loop L}
      → Flows T G o X l l' → Flows T' G' o' X' l' l''
      → Flows (λ k. T k ++ T' k) (λ k. G k ++ G' k) (o ++ o') (X ++ X') l l''
  flows_trans (at_tail {o = o} {X = X} {q = q} {q' = q'} t g e) (at_tail {o = o'} {X = X'} {q' = q''} t' g' e') =
      at_tail (λ k. neither _ _ (t k) (t' k)) (λ k. neither _ _ (g k) (g' k)) (joins q X X' o o' q' q'' e e')
  flows_trans (at_cell {X = X} {q = q} {q' = q'} xs ys e a k) (at_cell {X = X'} {q' = q''} xs' ys' e' a' k') =
      at_cell (xs ++ xs') (ys ++ ys') (joins q X X' xs xs' q' q'' e e') (ran_trans a a') (flows_trans k k')

  pub same_devices : {T : ℕ → List (Turn L)} {G : ℕ → List Byte} {o X : List Frame} {l l' : Loop L}
      → Flows T G o X l l' → devices l ≡ devices l'
  same_devices (at_tail t g e) = refl
  same_devices (at_cell xs ys e a k) = ap suc (same_devices k)

  -- ---- One event

  -- n hops take l to l': the streams are as above, and the hops owed are fewer by n, but for the frames X
  pub record Moved (T : ℕ → List (Turn L)) (G : ℕ → List Byte) (o X : List Frame) (n : ℕ) (l l' : Loop L) : Type 0 where
    pub flows : Flows T G o X l l'
    pub count : n + owed (links_of l') ≡ owed (links_of l) + length X * devices l

  -- what an event does to the loop
  abbrev pub Step : Loop L → Event L → Loop L → Type 0
  Step l e l' = Moved (λ k. turn_by k e) (λ k. handed_by k e) (taken_by e) (put_by e) (hop_by e) l l'

  -- a device in front that makes no turn, with its link
  in_front : {T : ℕ → List (Turn L)} {G : ℕ → List Byte} {o : List Frame} {n : ℕ} {r r' : Loop L} (q : List Frame)
      (s : State) → Ran s (T 0) [] s [] (G 0) → Moved (λ k. T (suc k)) (λ k. G (suc k)) o [] n r r'
      → Moved T G o [] n (cell q s r) (cell q s r')
  in_front {r = r} {r' = r'} q s a u = record {
    flows = at_cell [] [] (append-nil q) a u.flows;
    count = rw (links_long r, links_long r', ← same_devices u.flows) (omega (arith, u.count));
  }

  abbrev pub AfterPush : Loop L → Frame → Option (Loop L) → Type 0
  AfterPush l f none = Unit {0}
  AfterPush l f (some l') = Step l (was_put f) l'

  pub push_ok : (l : Loop L) (f : Frame) → AfterPush l f (push l f)
  push_ok (tail q) f = go (ltb (length q) depth)
    where
      go : (b : Bool) → AfterPush (tail q) f (cond b (some (tail (q ++ f ∷ []))) none)
      go true = record { flows = at_tail (λ k. refl) (λ k. refl) refl; count = omega arith }
      go false = tt
  push_ok (cell q s r) f = go (ltb (length q) depth)
    where
      go : (b : Bool) → AfterPush (cell q s r) f (cond b (some (cell (q ++ f ∷ []) s r)) none)
      go true = record {
        flows = at_cell [] [] refl stays (flows_refl r);
        count = rw (links_long r) (simp length-append (omega arith));
      }
      go false = tt

  abbrev pub AfterHop : Loop L → ℕ → Option (Loop L × Option Byte) → Type 0
  AfterHop l i none = Unit {0}
  AfterHop l i (some p) = Step l (hopped i p.1) p.0

  one_hop : (s : State) (f : Frame) → Ran s (hops ∷ []) (f ∷ []) (next s f) (send s f ∷ []) (listed (hand s f))
  one_hop s f = rw append-nil at (hopping {s = s} {f = f} stays)

  pub hop_ok : (l : Loop L) (i : ℕ) → AfterHop l i (hop_at l i)
  hop_ok (tail q) i = tt
  hop_ok (cell q s r) (suc i) = go (hop_at r i) (hop_ok r i)
    where
      go : (o : Option (Loop L × Option Byte)) → AfterHop r i o
          → AfterHop (cell q s r) (suc i) (Option.map (λ p. (cell q s p.0, p.1)) o)
      go none u = tt
      go (some p) u = in_front q s stays u
  hop_ok (cell [] s r) zero = tt
  hop_ok (cell (f ∷ q) s r) zero = go (push r (send s f)) (push_ok r (send s f))
    where
      go : (o : Option (Loop L)) → AfterPush r (send s f) o
          → AfterHop (cell (f ∷ q) s r) zero (Option.map (λ r'. (cell q (next s f) r', hand s f)) o)
      go none u = tt
      go (some r') u = record {
        flows =
            at_cell (f ∷ []) (send s f ∷ []) (ap (λ (x : List Frame). f ∷ x) (append-nil q)) (one_hop s f) u.flows;
        count = rw (links_long r, links_long r', ← same_devices u.flows) (omega (arith, u.count));
      }

  abbrev pub AfterTake : Loop L → Option (Loop L × Frame) → Type 0
  AfterTake l none = Unit {0}
  AfterTake l (some p) = Step l (was_taken p.1) p.0

  pub take_ok : (l : Loop L) → AfterTake l (take_out l)
  take_ok (tail []) = tt
  take_ok (tail (f ∷ q)) =
      let one : f ∷ q ++ [] ≡ f ∷ q = ap (λ (x : List Frame). f ∷ x) (append-nil q) in
      record { flows = at_tail (λ k. refl) (λ k. refl) one; count = omega arith }
  take_ok (cell q s r) = go (take_out r) (take_ok r)
    where
      go : (o : Option (Loop L × Frame)) → AfterTake r o
          → AfterTake (cell q s r) (Option.map (λ p. (cell q s p.0, p.1)) o)
      go none u = tt
      go (some p) u = in_front q s stays u

  abbrev pub AfterCall : Loop L → ℕ → Local → Option (Loop L) → Type 0
  AfterCall l i c none = Unit {0}
  AfterCall l i c (some l') = Step l (called i c) l'

  pub call_ok : (l : Loop L) (i : ℕ) (c : Local) → AfterCall l i c (call_at l i c)
  call_ok (tail q) i c = tt
  call_ok (cell q s r) zero c = go (act s c) refl
    where
      go : (o : Option State) → act s c ≡ o → AfterCall (cell q s r) zero c (Option.map (λ s'. cell q s' r) o)
      go none e = tt
      go (some s') e =
          record { flows = at_cell [] [] (append-nil q) (acting e stays) (flows_refl r); count = omega arith }
  call_ok (cell q s r) (suc i) c = go (call_at r i c) (call_ok r i c)
    where
      go : (o : Option (Loop L)) → AfterCall r i c o
          → AfterCall (cell q s r) (suc i) c (Option.map (λ r'. cell q s r') o)
      go none u = tt
      go (some r') u = in_front q s stays u

  -- ---- All events of a history

  pub data Steps : Loop L → List (Event L) → Loop L → Type 0 where
    no_step : {l : Loop L} → Steps l [] l
    a_step : {l l' l'' : Loop L} {e : Event L} {es : List (Event L)} → Step l e l' → Steps l' es l'' → Steps l (e ∷ es) l''

  steps_trans : {l l' l'' : Loop L} {es fs : List (Event L)} → Steps l es l' → Steps l' fs l'' → Steps l (es ++ fs) l''
  steps_trans no_step b = b
  steps_trans (a_step x a) b = a_step x (steps_trans a b)

  -- the answer a to a call on l
  abbrev Sound : Loop L → Loop L × List (Event L) → Type 0
  Sound l a = Steps l a.1 a.0

  refused_ok : (l : Loop L) → Sound l (l, refused ∷ [])
  refused_ok l = a_step {e = refused} (record { flows = flows_refl l; count = omega arith }) no_step

  hop_sound : (l : Loop L) (i : ℕ) → Sound l (answer l (hop i))
  hop_sound l i = go (hop_at l i) (hop_ok l i)
    where
      go : (o : Option (Loop L × Option Byte)) → AfterHop l i o
          → Sound l (reply l (Option.map (λ p. (p.0, hopped i p.1)) o))
      go none u = refused_ok l
      go (some p) u = a_step u no_step

  hops_sound : (l : Loop L) (is : List ℕ) → Sound l (run l (map hop is))
  hops_sound l [] = no_step
  hops_sound l (i ∷ is) = steps_trans (hop_sound l i) (hops_sound (answer l (hop i)).0 is)

  -- a drain is hops
  drain_sound : (l : Loop L) (b : ℕ) → Sound l (answer l (drain b))
  drain_sound l b = let u = drain_is_hops L b l in rw u.1 at (hops_sound l u.0)

  answer_ok : (l : Loop L) (c : Call L) → Sound l (answer l c)
  answer_ok l (put f) = go (push l f) (push_ok l f)
    where
      go : (o : Option (Loop L)) → AfterPush l f o → Sound l (reply l (Option.map (λ l'. (l', was_put f)) o))
      go none u = refused_ok l
      go (some p) u = a_step u no_step
  answer_ok l (hop i) = hop_sound l i
  answer_ok l take = go (take_out l) (take_ok l)
    where
      go : (o : Option (Loop L × Frame)) → AfterTake l o
          → Sound l (reply l (Option.map (λ p. (p.0, was_taken p.1)) o))
      go none u = refused_ok l
      go (some p) u = a_step u no_step
  answer_ok l (local i c) = go (call_at l i c) (call_ok l i c)
    where
      go : (o : Option (Loop L)) → AfterCall l i c o → Sound l (reply l (Option.map (λ l'. (l', called i c)) o))
      go none u = refused_ok l
      go (some p) u = a_step u no_step
  answer_ok l (drain b) = drain_sound l b

  pub run_ok : (l : Loop L) (cs : List (Call L)) → Sound l (run l cs)
  run_ok l [] = no_step
  run_ok l (c ∷ cs) = steps_trans (answer_ok l c) (run_ok (answer l c).0 cs)

  pub steps_flows : {l l' : Loop L} {es : List (Event L)} → Steps l es l'
      → Flows (turns es) (handed es) (taken es) (puts es) l l'
  steps_flows no_step = flows_refl _
  steps_flows (a_step x a) = flows_trans x.flows (steps_flows a)

  -- every hop pays one of the hops owed
  pub steps_count : {l l' : Loop L} {es : List (Event L)} → Steps l es l'
      → hops_made es + owed (links_of l') ≡ owed (links_of l) + length (puts es) * devices l
  steps_count no_step = omega arith
  steps_count (a_step x a) =
      simp length-append (omega (arith, x.count, rw (← same_devices x.flows) at (steps_count a)))
