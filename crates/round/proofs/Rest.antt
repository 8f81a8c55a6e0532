-- One frame under way: it is alone in its link, so there is room for it everywhere, and no call of its round is
-- refused.
use Prim.Native.Nat.{ℕ, zero, suc, ◌+◌, ◌≤◌, ◌<◌}
use mathlib.Core.Path.{◌≡◌, refl, sym, ap, ◌∙◌}
use mathlib.Core.List.{List, [], ◌∷◌}
use mathlib.Core.Bool.{Bool, true, false, cond}
use native.Mathlib.Nat.{add-zero, zero-add, add-suc, suc-add}
use native.Mathlib.Omega.{arith}
use lib.Dec.{eqb}
use lib.ListN.{length, length-set}
use lib.Seq.{get_or-set_same, get_or-set_other}
use borrow.Author.Tests.{eqb-true, eqb-false}
use Rattle.frame.specs.Messages.{frames}
use Rattle.device.specs.declared.Handed.{Handed}
use Rattle.device.specs.declared.Handed.TheVariants as handed
use Rattle.record.specs.Fits.{Bytes}
use Rattle.record.specs.Sound.{allowed}
use Rattle.area.specs.Parts.{all}
use Rattle.area.specs.Sizes.{most_devices}
use Rattle.area.specs.Loop.{Loop, size, area_of, count_in, link, shape, unsound, SoundLoop}
use Rattle.area.specs.Lookup.{set_device, add, remove}
use Rattle.area.proofs.Each.{each_same}
use Rattle.calls.specs.Outcome.{Outcome, done, After, after, after_of, call_of}
use Rattle.calls.specs.Laws.{Kept, Keeps}
use Rattle.calls.specs.SetUp.{devices_for, items_of, items_fit, powered_on, set_up_with}
use Rattle.calls.proofs.Powered.{set_up_sound}
use Rattle.calls.specs.Calls.{refusal, no_hop, no_take, hop_answer, sent_by, passed, put_in, hop_in, take_in, hop_of, take_of}
use Rattle.calls.specs.declared.HopAnswer.{HopAnswer}
use Rattle.calls.specs.declared.TakeAnswer.{TakeAnswer}
use Rattle.calls.proofs.Outcomes.{put_done, hop_done, take_done}
use Rattle.calls.proofs.Kept.{put_keeps, hop_keeps, take_keeps}
use Rattle.calls.proofs.Laws.{call_on_loop}
use Rattle.round.specs.Round.{hops_area, put_area}
use Rattle.round.specs.Laws.{AtRest, NeverRefused, SetUpRests}
use Rattle.round.proofs.Held.{counted}

-- ---- on a loop

-- link k has one frame, and every other link none
pub record Alone (k : ℕ) (l : Loop) : Type 0 where
  pub frame : ℕ
  pub there : link l k ≡ frame ∷ []
  pub others : (j : ℕ) → (j ≡ k → ⊥) → link l j ≡ []

-- a frame goes into a link of a loop whose links are empty
added : (k f : ℕ) (l : Loop) → k < length l.links → ((j : ℕ) → link l j ≡ []) → Alone k (add k f l)
added k f l h e = record {
  frame = f;
  there = get_or-set_same l.links k _ [] h ∙ rw (e k);
  others = λ j n. get_or-set_other l.links k j _ [] n ∙ e j;
}

-- and leaves the link where it is alone
gone : (k : ℕ) (l : Loop) → k < length l.links → Alone k l → (j : ℕ) → link (remove k l) j ≡ []
gone k l h o j = go (eqb j k) refl
  where
    go : (t : Bool) → eqb j k ≡ t → link (remove k l) j ≡ []
    go true e = ap (λ (x : ℕ). link (remove k l) x) (eqb-true j k e) ∙ get_or-set_same l.links k _ [] h ∙ rw o.there
    go false e = get_or-set_other l.links k j _ [] (eqb-false _ _ e) ∙ o.others j (eqb-false _ _ e)

put_accepted : (f : ℕ) (l : Loop) → f < frames → ((j : ℕ) → link l j ≡ []) →
    put_in f l ≡ done 0 (add 0 f l)
put_accepted f l h e = put_done f l 0 h (rw (e 0))

module _ (i : ℕ) (l : Loop) (s : SoundLoop l) (h : i < size l) (o : Alone i l) where
  hop_accepted : hop_in i l ≡
      done (hop_answer (sent_by i o.frame l).frame (sent_by i o.frame l).handed) (passed i o.frame l)
  hop_accepted =
      hop_done i l o.frame 0 h (rw o.there) (rw (o.others (suc i) (λ e. let z : ⊥ = omega arith in z)))

  hop_alone : Alone (suc i) (passed i o.frame l)
  hop_alone =
      let l₁ = set_device i (sent_by i o.frame l).device l in
      let o₁ : Alone i l₁ = record { frame = o.frame; there = o.there; others = o.others } in
      added (suc i) (sent_by i o.frame l).frame (remove i l₁) (rw length-set (omega (arith, s.ends)))
      (gone i l₁ (omega (arith, s.ends)) o₁)

take_accepted : (l : Loop) (o : Alone (size l) l) →
    take_in l ≡ done (record { frame = o.frame; refusal = 0 }) (remove (size l) l)
take_accepted l o = take_done l (size l) refl o.frame (rw o.there)

answer_accepted : (f : ℕ) (h : Handed) → (hop_answer f h).refusal ≡ 0
answer_accepted f handed.Nothing = refl
answer_accepted f (handed.Byte b e) = refl
answer_accepted f handed.Clear = refl
answer_accepted f handed.Trigger = refl

-- ---- on an area

-- a call that is done on the loop of an area
module _ {A : Type 0} (deny : ℕ → A) (call : Loop → Outcome A) (keeps : Keeps call) (a : List ℕ) (l : Loop)
    (s : SoundLoop l) (is : a ≡ area_of l) (r : A) (m : Loop) (e : call l ≡ done r m) where
  after_is : call_of deny call a ≡ after r (area_of m)
  after_is = rw is (call_on_loop A deny call l s ∙ ap (after_of deny (area_of l)) e)

  left : Kept l m
  left = rw e at (keeps l s)

-- an area of n devices with a frame alone in link k
record Flying (n k : ℕ) (a : List ℕ) : Type 0 where
  loop : Loop
  sound : SoundLoop loop
  is : a ≡ area_of loop
  count : size loop ≡ n
  alone : Alone k loop

module _ (n i : ℕ) (a : List ℕ) (g : Flying n i a) (h : i < n) where
  abbrev l : Loop
  l = g.loop

  there : i < size l
  there = rw g.count h

  hop_is : hop_of a i ≡
      after (hop_answer (sent_by i g.alone.frame l).frame (sent_by i g.alone.frame l).handed)
      (area_of (passed i g.alone.frame l))
  hop_is = after_is no_hop (hop_in i) (hop_keeps i) a l g.sound g.is _ _
      (hop_accepted i l g.sound there g.alone)

  hop_answers : (hop_of a i).answer.refusal ≡ 0
  hop_answers = let t = sent_by i g.alone.frame l in rw hop_is (answer_accepted t.frame t.handed)

  hop_flies : Flying n (suc i) (hop_of a i).area
  hop_flies =
      let k = left no_hop (hop_in i) (hop_keeps i) a l g.sound g.is _ _
      (hop_accepted i l g.sound there g.alone) in
      record {
        loop = passed i g.alone.frame l;
        sound = k.sound;
        is = ap (λ (o : After HopAnswer). o.area) hop_is;
        count = k.same ∙ g.count;
        alone = hop_alone i l g.sound there g.alone;
      }

hops_fly : (k i n : ℕ) (a : List ℕ) → Flying n i a → i + k ≤ n → Flying n (i + k) (hops_area k i a)
unfolding hops_area
hops_fly zero i n a g h = rw add-zero g
hops_fly (suc k) i n a g h =
    rw (add-suc i k ∙ sym (suc-add i k))
    (hops_fly k (suc i) n (hop_of a i).area (hop_flies n i a g (omega arith)) (omega arith))

-- ---- the laws

pub never_refused : NeverRefused
never_refused f a small r =
    let l = r.loop in
    let n = size l in
    let accepted = put_accepted f l small r.empty in
    let put = after_is refusal (put_in f) (put_keeps f) a l r.sound r.is _ _ accepted in
    let kept = left refusal (put_in f) (put_keeps f) a l r.sound r.is _ _ accepted in
    let many : count_in a ≡ n = counted (record { loop = l; sound = r.sound; is = r.is; count = refl }) in
    let first : Flying n 0 (put_area f a) =
    record {
      loop = add 0 f l;
      sound = kept.sound;
      is = ap (λ (o : After ℕ). o.area) put;
      count = kept.same;
      alone = added 0 f l (omega (arith, r.sound.ends)) r.empty;
    } in
    let flying : (k : ℕ) → k ≤ n → Flying n k (hops_area k 0 (put_area f a)) =
    λ k h. rw zero-add at (hops_fly k 0 n (put_area f a) first (omega arith)) in
    let last = flying n (omega arith) in
    let m = last.loop in
    let alone : Alone (size m) m = rw last.count last.alone in
    let taken = after_is no_take take_in take_keeps _ m last.sound last.is _ _ (take_accepted m alone) in
    let empty = left no_take take_in take_keeps _ m last.sound last.is _ _ (take_accepted m alone) in
    record {
      put = ap (λ (o : After ℕ). o.answer) put;
      hops = λ i h. let less : i < n = rw many at h in
          hop_answers n i (hops_area i 0 (put_area f a)) (flying i (omega arith)) less;
      take = rw many (ap (λ (o : After TakeAnswer). o.answer.refusal) taken);
      rest =
          record {
            loop = remove (size m) m;
            sound = empty.sound;
            is = ap (λ (k : ℕ). (take_of (hops_area k 0 (put_area f a))).area) many
                ∙ ap (λ (o : After TakeAnswer). o.area) taken;
            empty = gone (size m) m (omega (arith, last.sound.ends)) alone;
          };
    }

-- a set-up that is done, whatever n its area's length gives
powered : (n : ℕ) (a items : List ℕ) → Bytes items →
    let o = cond (items_fit most_devices n a items)
    (cond (all allowed (items_of n items)) (after 0 (area_of (powered_on n items))) (after unsound a))
    (after shape a) in
    o.answer ≡ 0 → AtRest o.area
powered n a items small h = go (items_fit most_devices n a items) (all allowed (items_of n items)) refl refl h
  where
    go : (t u : Bool) → items_fit most_devices n a items ≡ t → all allowed (items_of n items) ≡ u →
        (cond t (cond u (after 0 (area_of (powered_on n items))) (after unsound a)) (after shape a)).answer ≡ 0 →
        AtRest (cond t (cond u (after 0 (area_of (powered_on n items))) (after unsound a)) (after shape a)).area
    go true true p q e =
        record {
          loop = powered_on n items;
          sound = set_up_sound most_devices n a items small p q;
          is = refl;
          empty = each_same (λ (fs : List ℕ). fs ≡ []) [] refl (suc n);
        }
    go true false p q e = let y : ⊥ = omega arith in absurd y
    go false u p q e = let y : ⊥ = omega arith in absurd y

pub set_up_rests : SetUpRests
unfolding set_up_with
set_up_rests a items small h = powered (devices_for (length a)) a items small h
