-- One change of a loop is one part of its area put in place of the old one: what put, take and the local calls leave.
use Prim.Native.Nat.{ℕ, ◌+◌, ◌≤◌, ◌<◌}
use mathlib.Core.Path.{◌≡◌, sym, ap, ◌∙◌}
use mathlib.Core.List.{List, [], ◌∷◌, ◌++◌, tail}
use native.Mathlib.Omega.{arith}
use lib.ListN.{length}
use lib.Seq.{drop-drop}
use borrow.Author.Tests.{lt-ltb, eq-eqb}
use Rattle.frame.specs.Messages.{frames}
use Rattle.device.specs.declared.Device.{Device}
use Rattle.record.specs.Record.{record_size, record_of}
use Rattle.record.specs.Parts.{splice}
use Rattle.record.proofs.Laws.{record_wide}
use Rattle.area.specs.Sizes.{depth, link_size, record_at, link_at}
use Rattle.area.specs.Link.{link_of}
use Rattle.area.specs.Loop.{Loop, count_in, size, loop_of, area_of, device, link}
use Rattle.area.specs.Lookup.{oldest_of, set_device, set_link, remove}
use Rattle.area.proofs.Parts.{splice as spliceOf}
use Rattle.area.proofs.Links.{link_wide}
use Rattle.area.proofs.Areas.{device_put, link_put}
use Rattle.area.proofs.Laws.{area_back, loop_sound}
use Rattle.calls.specs.Outcome.{Outcome, done, After, after, call_of, call_with}
use Rattle.calls.specs.Calls.{refusal, no_take, put_in, take_in, local_in}
use Rattle.calls.specs.declared.TakeAnswer.{TakeAnswer}
use Rattle.calls.proofs.Outcomes.{load_chosen, take_done}
use Rattle.demands.specs.Calls.{numbers, Local, load, status, wish, key, poll_status, called_by, put, take, local}
use Rattle.demands.specs.Calls.{plain, taken, told, acts}
use Rattle.demands.specs.Demands.{Judged}
use Rattle.demands.proofs.Tests.{size_is, load_choice}

-- new bytes of a width, from a place on
pub spliced : (at w : ℕ) (new a : List ℕ) → length new ≡ w → splice at new a ≡ spliceOf at w new a
unfolding splice
spliced at w new a e = rw (e, drop-drop w at a)

module _ (a : List ℕ) (j : Judged a) where
  back : area_of (loop_of a) ≡ a
  back = area_back a j.bytes j.sound

  links_long : length (loop_of a).links ≡ count_in a + 1
  links_long = omega (arith, (loop_sound a j.bytes j.sound).ends, size_is a)

  pub device_area : (i : ℕ) (d : Device) → i < count_in a →
      area_of (set_device i d (loop_of a)) ≡ splice (record_at i) (record_of d) a
  device_area i d h =
      sym (device_put (loop_of a) i d (rw (size_is a) h))
      ∙ ap (λ (b : List ℕ). spliceOf (record_at i) record_size (record_of d) b) back
      ∙ sym (spliced (record_at i) record_size (record_of d) a (record_wide d))

  pub link_area : (k : ℕ) (q : List ℕ) → k ≤ count_in a →
      area_of (set_link k q (loop_of a)) ≡ splice (link_at (count_in a) k) (link_of q) a
  link_area k q h =
      sym (link_put (loop_of a) k q (omega (arith, links_long)))
      ∙ rw (size_is a, back) (sym (spliced (link_at (count_in a) k) link_size (link_of q) a (link_wide q)))

  -- a call that is done on the loop
  call_area : {A : Type 0} (deny : ℕ → A) (call : Loop → Outcome A) (r : A) (m : Loop) (x : List ℕ) →
      call (loop_of a) ≡ done r m → area_of m ≡ x → call_of deny call a ≡ after r x
  unfolding call_with
  call_area deny call r m x e f = rw (j.sound, e, f)

  pub put_leaves : (f : ℕ) → f < frames → length (link (loop_of a) 0) < depth →
      acts (put f) a ≡ after (plain 0) (splice (link_at (count_in a) 0) (link_of (link (loop_of a) 0 ++ (f ∷ []))) a)
  unfolding put_in
  put_leaves f h room =
      ap (λ (o : After ℕ). after (plain o.answer) o.area)
      (call_area refusal (put_in f) 0 _ _
      (rw (lt-ltb f frames h, lt-ltb (length (link (loop_of a) 0)) depth room))
      (link_area 0 (link (loop_of a) 0 ++ (f ∷ [])) (omega arith)))

  pub take_leaves : (f : ℕ) (fs : List ℕ) → link (loop_of a) (count_in a) ≡ f ∷ fs →
      acts take a ≡ after (taken (record { frame = f; refusal = 0 }))
      (splice (link_at (count_in a) (count_in a)) (link_of fs) a)
  take_leaves f fs e =
      ap (λ (o : After TakeAnswer). after (taken o.answer) o.area)
      (call_area no_take take_in (record { frame = f; refusal = 0 }) (remove (count_in a) (loop_of a)) _
      (take_done (loop_of a) (count_in a) (sym (size_is a)) f (ap oldest_of e))
      (ap (λ (q : List ℕ). area_of (set_link (count_in a) (tail q) (loop_of a))) e
      ∙ link_area (count_in a) fs (omega arith)))

  local_leaves : (c : Local) (i : ℕ) → i < count_in a → (called_by c (device (loop_of a) i)).refusal ≡ 0 →
      call_of refusal (local_in (called_by c) i) a ≡ after 0
      (splice (record_at i) (record_of (called_by c (device (loop_of a) i)).device) a)
  unfolding local_in
  local_leaves c i h z =
      call_area refusal (local_in (called_by c) i) 0 _ _
      (rw (lt-ltb i (size (loop_of a)) (rw (size_is a) h), eq-eqb _ _ z))
      (device_area i (called_by c (device (loop_of a) i)).device h)

  pub local_call_leaves : (c : Local) (i : ℕ) → i < count_in a → (called_by c (device (loop_of a) i)).refusal ≡ 0 →
      acts (local i c) a ≡ after (plain 0)
      (splice (record_at i) (record_of (called_by c (device (loop_of a) i)).device) a)
  local_call_leaves c i h z = go c z (local_leaves c i h z)
    where
      go : (c : Local) {x : List ℕ} → (called_by c (device (loop_of a) i)).refusal ≡ 0 →
          call_of refusal (local_in (called_by c) i) a ≡ after 0 x → acts (local i c) a ≡ after (plain 0) x
      go (load bs e) z q =
          ap (told plain) (load_chosen a i (numbers bs) e (load_choice (device (loop_of a) i) (numbers bs) e z) ∙ q)
      go (status s) z q = ap (told plain) q
      go (wish w) z q = ap (told plain) q
      go key z q = ap (told plain) q
      go (poll_status s) z q = ap (told plain) q
