-- Every call keeps sound loops sound: a good device goes into a device's place, and frames below 2,048 into a link
-- with room.
use mathlib.Core.Path.{◌≡◌, refl, ◌∙◌}
use mathlib.Core.List.{[], ◌∷◌, ◌++◌, tail}
use mathlib.Core.Bool.{Bool, true, false, cond}
use Prim.Native.Nat.{ℕ, zero, suc, ◌<◌}
use lib.Dec.{ltb, eqb}
use lib.ListN.{length, length-set}
use borrow.Author.Tests.{ltb-true}
use Rattle.std.specs.Prelude.{Option, Some, None}
use Rattle.frame.specs.Messages.{frames}
use Rattle.frame.specs.Coding.{bad_frame}
use Rattle.device.specs.declared.Device.{Device}
use Rattle.record_local.specs.Local.{Called}
use Rattle.record.specs.Fits.{Good}
use Rattle.keeps.proofs.Keeps.{take_good}
use Rattle.area.specs.Sizes.{depth}
use Rattle.area.specs.Loop.{Loop, size, device, link, SoundLoop}
use Rattle.area.specs.Lookup.{oldest_of, room_of, place_of, set_device, add, remove}
use Rattle.area.proofs.Links.{oldest_is, room_is, frames_less, frames_more}
use Rattle.area.proofs.Areas.{device_kept, link_kept}
use Rattle.calls.specs.Outcome.{Outcome, refuse, done, loop_after}
use Rattle.calls.specs.Calls.{at_place, of_oldest, into_room, put_in, taken_from, take_in, sent_by, passed, passes}
use Rattle.calls.specs.Calls.{passes_on, hop_from, hop_in, called_at, local_in}
use Rattle.calls.specs.Drain.{no_hop_left, budget_spent, highest, stopped, handed_to, reported_by, turned}
use Rattle.calls.specs.Drain.{on_place, drain_from}
use Rattle.calls.specs.Laws.{Kept, PutKeeps, TakeKeeps, HopKeeps, Keeps, DrainKeeps}
use Rattle.calls.specs.declared.HopAnswer.{HopAnswer}
use Rattle.calls.specs.declared.DrainAnswer.{DrainAnswer}
use Rattle.calls.proofs.Outcomes.{link_next}

-- ---- one change

module _ (l : Loop) (s : SoundLoop l) where
  pub unchanged : Kept l l
  unchanged = record { sound = s; same = refl }

  set_kept : (i : ℕ) (d : Device) → Good d → Kept l (set_device i d l)
  set_kept i d g = record { sound = device_kept l s i d g; same = length-set l.devices i d }

  add_kept : (j f : ℕ) → length (link l j) < depth → f < frames → Kept l (add j f l)
  add_kept j f room h =
      record {
        sound = link_kept l s j (link l j ++ (f ∷ [])) (frames_more (link l j) f (s.frames j) room h);
        same = refl;
      }

  remove_kept : (j : ℕ) → Kept l (remove j l)
  remove_kept j = record {
    sound = link_kept l s j (tail (link l j)) (frames_less (link l j) (s.frames j));
    same = refl;
  }

  -- the oldest frame of a link is a frame, so what a device makes of it is good
  pub sent_good : (i f : ℕ) → oldest_of (link l i) ≡ Some f →
      Good (sent_by i f l).device × ((sent_by i f l).frame < frames)
  sent_good i f e = take_good (device l i) f (s.devices i) (rw (oldest_is (link l i) f e) ((s.frames i).each 0))

-- one change after another
and_then : (l m n : Loop) → Kept l m → Kept m n → Kept l n
and_then l m n p q = record { sound = q.sound; same = q.same ∙ p.same }

passed_kept : (i f : ℕ) (l : Loop) → SoundLoop l → oldest_of (link l i) ≡ Some f →
    length (link l (suc i)) < depth → Kept l (passed i f l)
passed_kept i f l s e room =
    let g = sent_good l s i f e in
    let l₁ = set_device i (sent_by i f l).device l in
    let l₂ = remove i l₁ in
    let k₁ = set_kept l s i (sent_by i f l).device g.0 in
    let k₂ = remove_kept l₁ k₁.sound i in
    let r : length (link l₂ (suc i)) < depth = rw (link_next i (tail (link l i)) l₁) room in
    and_then l l₂ (passed i f l) (and_then l l₁ l₂ k₁ k₂)
    (add_kept l₂ k₂.sound (suc i) (sent_by i f l).frame r g.1)

-- ---- each call

pub put_keeps : PutKeeps
unfolding put_in
put_keeps f l s = go (ltb f frames) (room_of (link l 0)) refl refl
  where
    go : (t : Bool) (r : Option ℕ) → ltb f frames ≡ t → room_of (link l 0) ≡ r →
        Kept l (loop_after {A = ℕ} l (cond t (into_room (done 0 (add 0 f l)) r) (refuse bad_frame)))
    go false r p q = unchanged l s
    go true None p q = unchanged l s
    go true (Some n) p q = add_kept l s 0 f (room_is (link l 0) n q).0 (ltb-true _ _ p)

pub take_keeps : TakeKeeps
unfolding take_in
take_keeps l s = go (oldest_of (link l (size l)))
  where
    go : (o : Option ℕ) → Kept l (loop_after l (of_oldest (taken_from l) o))
    go None = unchanged l s
    go (Some f) = remove_kept l s (size l)

pub hop_keeps : HopKeeps
unfolding hop_in
hop_keeps i l s = there (place_of l i) refl
  where
    room : (k f : ℕ) → oldest_of (link l k) ≡ Some f → (r : Option ℕ) → room_of (link l (suc k)) ≡ r →
        Kept l (loop_after l (into_room (passes k f l) r))
    room k f e (Some n) q = passed_kept k f l s e (room_is (link l (suc k)) n q).0
    room k f e None q = unchanged l s

    oldest : (k : ℕ) (o : Option ℕ) → oldest_of (link l k) ≡ o → Kept l (loop_after l (of_oldest (passes_on k l) o))
    oldest k None e = unchanged l s
    oldest k (Some f) e = room k f e (room_of (link l (suc k))) refl

    there : (p : Option ℕ) → place_of l i ≡ p → Kept l (loop_after l (at_place (hop_from l) p))
    there None e = unchanged l s
    there (Some k) e = oldest k (oldest_of (link l k)) refl

-- a local call that keeps devices good
pub local_keeps : (call : Device → Called) → ((d : Device) → Good d → Good (call d).device) → (i : ℕ) →
    Keeps (local_in call i)
unfolding local_in
local_keeps call good i l s = there (place_of l i)
  where
    called : (k : ℕ) (u : Bool) → Kept l
        (loop_after {A = ℕ} l
        (cond u (done 0 (set_device k (call (device l k)).device l)) (refuse (call (device l k)).refusal)))
    called k false = unchanged l s
    called k true = set_kept l s k (call (device l k)).device (good (device l k) (s.devices k))

    there : (p : Option ℕ) → Kept l (loop_after l (at_place (called_at call l) p))
    there None = unchanged l s
    there (Some k) = called k (eqb (call (device l k)).refusal 0)

-- ---- the drain

turned_keeps : (i h : ℕ) (next : Loop → Outcome DrainAnswer) (l m : Loop) → Kept l m →
    ((k : Loop) → Kept l k → Kept l (loop_after l (next k))) →
    (o : Outcome HopAnswer) → Kept l (loop_after m o) → Kept l (loop_after l (turned i h next m o))
turned_keeps i h next l m s k (refuse n) t = s
turned_keeps i h next l m s k (done r q) t = go (eqb r.handed 1) (eqb r.event 0)
  where
    go : (u v : Bool) →
        Kept l (loop_after l (cond u (handed_to i (suc h) r q) (cond v (next q) (reported_by i (suc h) r q))))
    go true v = t
    go false true = k q t
    go false false = t

drain_keeps_from : (b h : ℕ) (l m : Loop) → Kept l m → Kept l (loop_after l (drain_from b h m))
unfolding drain_from
drain_keeps_from zero h l m s = go (highest (size m) m)
  where
    go : (p : Option ℕ) → Kept l (loop_after l (on_place (stopped no_hop_left h m) (λ i. stopped budget_spent h m) p))
    go None = s
    go (Some i) = s
drain_keeps_from (suc b) h l m s = go (λ k t. drain_keeps_from b (suc h) l k t) (highest (size m) m)
  where
    go : ((k : Loop) → Kept l k → Kept l (loop_after l (drain_from b (suc h) k))) → (p : Option ℕ) →
        Kept l (loop_after l (on_place (stopped no_hop_left h m)
        (λ i. turned i h (drain_from b (suc h)) m (hop_in i m)) p))
    go k None = s
    go k (Some i) =
        turned_keeps i h (drain_from b (suc h)) l m s k (hop_in i m)
        (and_then l m (loop_after m (hop_in i m)) s (hop_keeps i m s.sound))

pub drain_keeps : DrainKeeps
drain_keeps b l s = drain_keeps_from b 0 l l (unchanged l s)
