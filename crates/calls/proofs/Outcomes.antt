-- What each call does, by what the code's tests and lookups have shown: each is one way through the definition's tests.
use mathlib.Core.Path.{◌≡◌, refl, sym, ap, ◌∙◌}
use mathlib.Core.List.{List, []}
use mathlib.Core.Bool.{Bool, true, false, cond}
use Prim.Native.Nat.{ℕ, suc, ◌≤◌, ◌<◌}
use native.Mathlib.Omega.{arith}
use lib.Dec.{eqb, ltb}
use lib.Seq.{get_or-set_other}
use borrow.Author.Tests.{lt-ltb, le-ltb, ltb-true, ltb-false, eq-eqb, ne_eqb}
use Rattle.std.specs.Prelude.{Some, None}
use Rattle.frame.specs.Messages.{frames}
use Rattle.frame.specs.Coding.{bad_frame}
use Rattle.device.specs.Device.{is_choice}
use Rattle.device.specs.declared.Device.{Device}
use Rattle.record_local.specs.Local.{Called, loads}
use Rattle.refusal.specs.Refusal.{number}
use Rattle.refusal.specs.declared.Refusal.{Refusal}
use Rattle.refusal.proofs.Numbers.{numbered_above}
use Rattle.area.specs.Loop.{Loop, size, loop_of, shape, unsound, shaped, sound, judge_of, judge_with, device, link}
use Rattle.area.specs.Lookup.{oldest_of, room_of, place_of, set_link, add, remove}
use Rattle.calls.specs.Outcome.{Outcome, refuse, done, after, after_of, call_of, call_with, Is}
use Rattle.calls.specs.Calls.{no_device, empty, full, of_oldest, into_room, put_in, taken_from, take_in, hop_answer}
use Rattle.calls.specs.Calls.{refusal, sent_by, passed, passes, passes_on, hop_in, called_in, local_in, load_in}

-- a call that is done
abbrev pub IsDone : {A : Type 0} → Outcome A → Type 0
IsDone (refuse k) = ⊥
IsDone (done r m) = Unit {0}

-- ---- any call

module _ {A : Type 0} (deny : ℕ → A) (call : Loop → Outcome A) (a : List ℕ) where
  pub call_refused : (judge_of a ≡ 0 → ⊥) → call_of deny call a ≡ after (deny (judge_of a)) a
  unfolding call_with
  call_refused h = rw (ne_eqb _ _ h)

  pub call_done : judge_of a ≡ 0 → call_of deny call a ≡ after_of deny a (call (loop_of a))
  unfolding call_with
  call_done h = rw (eq-eqb _ _ h)

  -- in the form of a contract: the area is judged wrong, or else all is as with its loop
  pub judged_wrong : (e : Refusal) (r : A) → number e ≡ judge_of a → r ≡ deny (number e) → Is (call_of deny call a) r a
  judged_wrong e r p d = rw (call_refused (λ z. numbered_above e (p ∙ z))) (d ∙ ap deny p, refl)

  pub judged_right : (r : A) (x : List ℕ) → 0 ≡ judge_of a →
      Is (after_of deny a (call (loop_of a))) r x → Is (call_of deny call a) r x
  judged_right r x p h = rw (call_done (sym p)) h

-- ---- load: its choice before all else

module _ (a : List ℕ) (i : ℕ) (bs : List ℕ) (e : ℕ) where
  pub load_chosen : is_choice e ≡ true →
      call_of refusal (load_in i bs e) a ≡ call_of refusal (local_in (λ d. loads d bs e) i) a
  unfolding call_with load_in
  load_chosen h = rw h

  pub load_unchosen : is_choice e ≡ false → call_of refusal (load_in i bs e) a ≡ after (cond (shaped a) unsound shape) a
  unfolding call_with judge_with load_in
  load_unchosen h = rw h (go (shaped a) (sound a))
    where
      go : (s t : Bool) →
          cond (eqb (cond s (cond t 0 unsound) shape) 0) (after unsound a)
          (after (cond s (cond t 0 unsound) shape) a) ≡ after (cond s unsound shape) a
      go true true = refl
      go true false = refl
      go false t = refl

-- ---- what the lookups say

pub place_at : (l : Loop) (i k : ℕ) → place_of l i ≡ Some k → (i < size l) × (k ≡ i)
place_at l i k h = go (ltb i (size l)) refl h
  where
    go : (t : Bool) → ltb i (size l) ≡ t → cond t (Some i) None ≡ Some k → (i < size l) × (k ≡ i)
    go true e p = (ltb-true _ _ e, cc)
    go false e p = let z : ◌≡◌ {A = ℕ} 0 1 = cc in let y : ⊥ = omega arith in absurd y

pub place_none : (l : Loop) (i : ℕ) → place_of l i ≡ None → size l ≤ i
place_none l i h = go (ltb i (size l)) refl h
  where
    go : (t : Bool) → ltb i (size l) ≡ t → cond t (Some i) None ≡ None → size l ≤ i
    go true e p = let z : ◌≡◌ {A = ℕ} 0 1 = cc in let y : ⊥ = omega arith in absurd y
    go false e p = ltb-false _ _ e

-- ---- put and take

module _ (f : ℕ) (l : Loop) where
  pub put_bad : frames ≤ f → put_in f l ≡ refuse bad_frame
  unfolding put_in
  put_bad h = rw (le-ltb _ _ h)

  pub put_full : f < frames → room_of (link l 0) ≡ None → put_in f l ≡ refuse full
  unfolding put_in
  put_full h e = rw (lt-ltb _ _ h) (ap (into_room (done 0 (add 0 f l))) e)

  pub put_done : (n : ℕ) → f < frames → room_of (link l 0) ≡ Some n → put_in f l ≡ done 0 (add 0 f l)
  unfolding put_in
  put_done n h e = rw (lt-ltb _ _ h) (ap (into_room (done 0 (add 0 f l))) e)

module _ (l : Loop) (n : ℕ) (tail : n ≡ size l) where
  pub take_empty : oldest_of (link l n) ≡ None → take_in l ≡ refuse empty
  unfolding take_in
  take_empty e = ap (of_oldest (taken_from l)) (rw tail at e)

  pub take_done : (f : ℕ) → oldest_of (link l n) ≡ Some f →
      take_in l ≡ done (record { frame = f; refusal = 0 }) (remove n l)
  unfolding take_in
  take_done f e = rw tail (ap (of_oldest (taken_from l)) (rw tail at e))

-- ---- hop

module _ (i : ℕ) (l : Loop) where
  pub hop_none : size l ≤ i → hop_in i l ≡ refuse no_device
  unfolding hop_in
  hop_none h = rw (le-ltb _ _ h)

  pub hop_empty : i < size l → oldest_of (link l i) ≡ None → hop_in i l ≡ refuse empty
  unfolding hop_in
  hop_empty h e = rw (lt-ltb _ _ h) (ap (of_oldest (passes_on i l)) e)

  pub hop_full : (f : ℕ) → i < size l → oldest_of (link l i) ≡ Some f → room_of (link l (suc i)) ≡ None →
      hop_in i l ≡ refuse full
  unfolding hop_in
  hop_full f h e s = rw (lt-ltb _ _ h) (ap (of_oldest (passes_on i l)) e ∙ ap (into_room (passes i f l)) s)

  pub hop_done : (f n : ℕ) → i < size l → oldest_of (link l i) ≡ Some f →
      room_of (link l (suc i)) ≡ Some n →
      hop_in i l ≡ done (hop_answer (sent_by i f l).frame (sent_by i f l).handed) (passed i f l)
  unfolding hop_in
  hop_done f n h e s = rw (lt-ltb _ _ h) (ap (of_oldest (passes_on i l)) e ∙ ap (into_room (passes i f l)) s)

-- what a hop does to link i does not concern link i + 1
pub link_next : (i : ℕ) (fs : List ℕ) (l : Loop) → link (set_link i fs l) (suc i) ≡ link l (suc i)
link_next i fs l = get_or-set_other l.links i (suc i) fs [] (λ e. let z : ⊥ = omega arith in z)

-- ---- local calls

module _ (call : Device → Called) (i : ℕ) (l : Loop) where
  pub local_none : size l ≤ i → local_in call i l ≡ refuse no_device
  unfolding local_in
  local_none h = rw (le-ltb _ _ h)

  pub local_there : i < size l → local_in call i l ≡ called_in i l (call (device l i))
  unfolding local_in
  local_there h = rw (lt-ltb _ _ h)

-- the ways through put, take and hop
pub ruleset ways =
    (call_refused, call_done, put_bad, put_full, put_done, take_empty, take_done, hop_empty, hop_full, hop_done)
