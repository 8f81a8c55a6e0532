-- Areas of sound loops: every call leaves one of as many devices, and so does a frame sent right round.
use Prim.Native.Nat.{ℕ, zero, suc, ◌≤◌}
use mathlib.Core.Path.{◌≡◌, refl, sym, ap, ◌∙◌}
use mathlib.Core.List.{List}
use lib.ListN.{length}
use Rattle.record.specs.Fits.{Bytes}
use Rattle.area.specs.Sizes.{most_devices, area_size}
use Rattle.area.specs.Loop.{Loop, size, loop_of, area_of, count_in, judge_of, SoundLoop, Holds}
use Rattle.area.proofs.Areas.{holds_of, sized}
use Rattle.area.proofs.Laws.{area_back, loop_sound}
use Rattle.calls.specs.Outcome.{Outcome, refuse, done, call_of, after_of, loop_after}
use Rattle.calls.specs.Calls.{refusal, put_in, no_hop, hop_in, hop_of, no_take, take_in}
use Rattle.calls.specs.Laws.{Keeps}
use Rattle.calls.proofs.Outcomes.{call_done}
use Rattle.calls.proofs.Kept.{put_keeps, hop_keeps, take_keeps}
use Rattle.round.specs.Round.{hops_area, put_area, round_area}

pub record Area (n : ℕ) (a : List ℕ) : Type 0 where
  pub loop : Loop
  pub sound : SoundLoop loop
  pub is : a ≡ area_of loop
  pub count : size loop ≡ n

module _ {n : ℕ} {a : List ℕ} (h : Area n a) where
  holds : Holds a h.loop
  holds = rw h.is (holds_of h.loop h.sound)

  pub judged : judge_of a ≡ 0
  judged = holds.judged

  pub counted : count_in a ≡ n
  counted = (sized a judged).count ∙ ap size holds.held ∙ h.count

  pub devices : size (loop_of a) ≡ n
  devices = ap size holds.held ∙ h.count

  pub few : n ≤ most_devices
  few = rw (ap size holds.held, h.count) at (sized a judged).few

  pub long : length a ≡ area_size n
  long = (sized a judged).long ∙ ap (λ l. area_size (size l)) holds.held ∙ ap area_size h.count

-- the bytes of a sound area
pub area_held : (a : List ℕ) → Bytes a → judge_of a ≡ 0 → Area (size (loop_of a)) a
area_held a b h = record { loop = loop_of a; sound = loop_sound a b h; is = sym (area_back a b h); count = refl }

pub called : {A : Type 0} (deny : ℕ → A) (call : Loop → Outcome A) → Keeps call → {n : ℕ} {a : List ℕ} → Area n a →
    Area n (call_of deny call a).area
called deny call keeps {n} {a} h =
    let k = keeps h.loop h.sound in
    let e = holds h in
    record {
      loop = loop_after h.loop (call h.loop);
      sound = k.sound;
      is = rw (call_done deny call a e.judged, e.held) (go (call h.loop));
      count = k.same ∙ h.count;
    }
  where
    go : (o : Outcome _) → (after_of deny a o).area ≡ area_of (loop_after h.loop o)
    go (refuse k) = h.is
    go (done r m) = refl

pub put_held : (f : ℕ) {n : ℕ} {a : List ℕ} → Area n a → Area n (put_area f a)
put_held f h = called refusal (put_in f) (put_keeps f) h

pub hop_held : (i : ℕ) {n : ℕ} {a : List ℕ} → Area n a → Area n (hop_of a i).area
hop_held i h = called no_hop (hop_in i) (hop_keeps i) h

hops_held : (k i : ℕ) {n : ℕ} {a : List ℕ} → Area n a → Area n (hops_area k i a)
unfolding hops_area
hops_held zero i h = h
hops_held (suc k) i h = hops_held k (suc i) (hop_held i h)

pub round_held : (f : ℕ) {n : ℕ} {a : List ℕ} → Area n a → Area n (round_area f a)
round_held f {n} {a} h = called no_take take_in take_keeps (hops_held (count_in a) 0 (put_held f h))
