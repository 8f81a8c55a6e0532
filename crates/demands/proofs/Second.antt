-- Demand 2: a hop leaves the area of the loop that it leaves, which differs from the old one in one record and two
-- links; and each other call leaves what its definition says.
use Prim.Native.Nat.{ℕ, suc, ◌<◌}
use mathlib.Core.Bool.{Bool, true, false, not, cond}
use mathlib.Core.Path.{◌≡◌, refl, sym, ap, ◌∙◌}
use mathlib.Core.List.{List, [], ◌∷◌, ◌++◌, tail}
use native.Mathlib.Omega.{arith}
use lib.Dec.{eqb}
use lib.ListN.{length, length-set}
use lib.Seq.{get_or-set_other}
use borrow.Author.Tests.{lt-ltb}
use Rattle.std.specs.Prelude.{Some, None}
use Rattle.frame.proofs.Rows.{in_order}
use Rattle.frame.specs.Messages.{frames, kind_at}
use Rattle.frame.specs.Decoding.{message, idy, decoded as decoding, frame_of}
use Rattle.frame.specs.Coding.{bad_frame, decode_of, in_list, encode_of}
use Rattle.frame.proofs.Laws.{decode_encode, encode_decode, kind_zero}
use Rattle.device.specs.Take.{takes}
use Rattle.device.proofs.Sentences.{end_where_asked, end_only_asked, events_reported, events_change_nothing}
use Rattle.device.proofs.Sentences.{others_leave_remote, ifc_leaves_remote, only_enabled, gtl_only_listener}
use Rattle.device.proofs.Sentences.{key_only_unlocked}
use Rattle.device.proofs.RemoteTable.{remote_table}
use Rattle.record.proofs.Laws.{any_remote}
use Rattle.device.specs.declared.Device.{Device}
use Rattle.area.specs.Sizes.{depth, link_size, link_at}
use Rattle.area.specs.Link.{link_of}
use Rattle.area.specs.Loop.{Loop, count_in, size, loop_of, area_of, judge_of, device, link}
use Rattle.area.specs.Lookup.{oldest_of, set_device, set_link}
use Rattle.area.proofs.Links.{link_wide}
use Rattle.area.proofs.Areas.{link_put}
use Rattle.area.proofs.Laws.{loop_sound}
use Rattle.calls.specs.Outcome.{done, After, after, call_with, reads}
use Rattle.calls.specs.Calls.{of_oldest, hop_answer, sent_by, passed, passes_on, hop_in, hop_of}
use Rattle.calls.specs.Owed.{no_owed, owed_in}
use Rattle.calls.specs.declared.HopAnswer.{HopAnswer}
use Rattle.calls.specs.declared.OwedAnswer.{OwedAnswer}
use Rattle.calls.proofs.Outcomes.{call_done}
use Rattle.coding.specs.Coding.{decoded_as, decode_answer, encoded_as, encode_answer}
use Rattle.coding.specs.declared.DecodeAnswer.{DecodeAnswer}
use Rattle.coding.specs.declared.EncodeAnswer.{EncodeAnswer}
use Rattle.poll_count.specs.Count.{no_count, counted, poll_count as pollAnswer}
use Rattle.poll_count.specs.declared.PollAnswer.{PollAnswer}
use Rattle.calls.specs.SetUp.{powered_on}
use Rattle.saved.specs.Saved.{saved}
use Rattle.saved.specs.Older.{opened}
use Rattle.saved.specs.Calls.{save_of, open_of}
use Rattle.saved.proofs.Laws as saved-laws
use Rattle.demands.specs.Calls.{Byte, numbers, hop, owes, save, on_area, set_up, opens, on_frame, encode, poll_count}
use Rattle.demands.specs.Calls.{Answer, plain, hopped, owing, saving, decoded, encoded, polled, told, acts, pil}
use Rattle.demands.specs.Conditions.{devices_at, due}
use Rattle.demands.specs.Demands.{CanHop, ruled, record_taken, link_less, hop_leaves, hops_owed, Demand2, SavedLoops}
use Rattle.demands.specs.Demands.{EndByChoice, RemoteLocal}
use Rattle.demands.proofs.Away.{whole, save_leaves, open_leaves}
use Rattle.demands.proofs.Tests.{size_is}
use Rattle.demands.proofs.Walks.{refusal_due, walk_done}
use Rattle.demands.proofs.First.{outside, no_idy, count_is, demand_1, sets_up}
use Rattle.demands.proofs.ByHops.{drain_hops}
use Rattle.demands.proofs.Spliced.{spliced, device_area, put_leaves, take_leaves, local_call_leaves}

module _ (i f : ℕ) (fs a : List ℕ) (can : CanHop i f fs a) where
  l : Loop
  l = loop_of a

  -- the hop is done
  hop_in_lem : hop_in i (loop_of a) ≡ done (hop_answer (sent_by i f (loop_of a)).frame (sent_by i f (loop_of a)).handed)
      (passed i f (loop_of a))
  unfolding hop_in
  hop_in_lem =
      rw (lt-ltb i (size (loop_of a)) (rw (size_is a) can.there))
      (ap (λ (q : List ℕ). of_oldest (passes_on i (loop_of a)) (oldest_of q)) can.oldest
      ∙ rw (lt-ltb (length (link (loop_of a) (suc i))) depth can.room))

  hop_is : hop_of a i ≡ after (hop_answer (sent_by i f (loop_of a)).frame (sent_by i f (loop_of a)).handed)
      (area_of (passed i f (loop_of a)))
  unfolding call_with
  hop_is = rw (can.judged.sound, hop_in_lem)

  -- its area, one change after the other
  n : ℕ
  n = size (loop_of a)

  d : Device
  d = (takes (device (loop_of a) i) f).device

  l₁ : Loop
  l₁ = set_device i (takes (device (loop_of a) i) f).device (loop_of a)

  l₂ : Loop
  l₂ = set_link i (tail (link (loop_of a) i)) (set_device i (takes (device (loop_of a) i) f).device (loop_of a))

  links_long : length (loop_of a).links ≡ suc (size (loop_of a))
  links_long = (loop_sound a can.judged.bytes can.judged.sound).ends

  in_range : i < size (loop_of a)
  in_range = rw (size_is a) can.there

  area_1 : area_of l₁ ≡ record_taken i f a
  unfolding l₁
  area_1 = device_area a can.judged i (takes (device (loop_of a) i) f).device can.there

  area_2 : area_of l₂ ≡ link_less i f a
  unfolding l₁ l₂
  area_2 =
      let q = tail (link (loop_of a) i) in
      let same : size l₁ ≡ count_in a = length-set (loop_of a).devices i (takes (device (loop_of a) i) f).device
      ∙ size_is a in
      sym (link_put l₁ i q (omega (arith, links_long, in_range)))
      ∙ rw (same, area_1) (sym (spliced (link_at (count_in a) i) link_size (link_of q) (record_taken i f a) (link_wide q)))

  next_link : link l₂ (suc i) ≡ link (loop_of a) (suc i)
  unfolding l₂
  next_link = get_or-set_other (loop_of a).links i (suc i) (tail (link (loop_of a) i)) [] (λ e. omega arith)

  area_3 : area_of (passed i f (loop_of a)) ≡ hop_leaves i f a
  unfolding l₁ l₂
  area_3 =
      let q = link (loop_of a) (suc i) ++ ((takes (device (loop_of a) i) f).frame ∷ []) in
      let same : size l₂ ≡ count_in a = length-set (loop_of a).devices i (takes (device (loop_of a) i) f).device
      ∙ size_is a in
      let long : suc i < length l₂.links = rw (length-set (loop_of a).links i (tail (link (loop_of a) i)))
      (omega (arith, links_long, in_range)) in
      rw next_link
      (sym (link_put l₂ (suc i) q long)
      ∙ rw (same, area_2) (sym
      (spliced (link_at (count_in a) (suc i)) link_size (link_of q) (link_less i f a) (link_wide q))))

  hop_leaves_lem : (acts (hop i) a).area ≡ hop_leaves i f a
  hop_leaves_lem = ap (λ (o : After HopAnswer). o.area) hop_is ∙ area_3

  hop_answers : (acts (hop i) a).answer ≡ hopped (hop_answer (ruled i f a).frame (ruled i f a).handed)
  hop_answers = ap (λ (o : After HopAnswer). hopped o.answer) hop_is

-- ---- owed, set up, save and opening, decoder, encoder and the count of a poll

owed_told : (a : List ℕ) → judge_of a ≡ 0 →
    acts owes a ≡ after (owing (record { hops = hops_owed a; refusal = 0 })) a
owed_told a z = ap (λ (o : After OwedAnswer). after (owing o.answer) a) (call_done no_owed (reads owed_in) a z)

set_up_leaves : (items : List Byte) (a : List ℕ) → due (set_up items) a ≡ 0 →
    pil (set_up items) a ≡ after (plain 0) (area_of (powered_on (devices_at (length a)) (numbers items)))
set_up_leaves items a z =
    ap (λ (r : Answer). after r (pil (set_up items) a).area)
    (ap plain (demand_1.by_table (set_up items) a ∙ z))
    ∙ ap (λ (x : List ℕ). after (plain 0) x) (sets_up a items z).leaves

saved_out : (out : List Byte) (a : List ℕ) → due (on_area (save out)) a ≡ 0 →
    acts (save out) a ≡ after (saving 0 (saved a)) a
saved_out out a z =
    let k : (save_of a (numbers out)).answer ≡ 0 = demand_1.by_table (on_area (save out)) a ∙ z in
    ap (λ (o : After ℕ). after (saving o.answer o.area) a) (whole k (save_leaves a (numbers out) k))

opened_as : (s : List Byte) (a : List ℕ) → due (opens s) a ≡ 0 →
    pil (opens s) a ≡ after (plain 0) (opened (numbers s))
opened_as s a z =
    let k : (open_of a (numbers s)).answer ≡ 0 = demand_1.by_table (opens s) a ∙ z in
    ap (λ (o : After ℕ). told plain o) (whole k (open_leaves a (numbers s) k))

decode_answers : (f : ℕ) → f < frames → decode_answer f ≡ decoded_as (Some (decoding f))
unfolding decode_of
decode_answers f h = rw (lt-ltb f frames h)

encode_answers : (k o c : ℕ) (a : List ℕ) → due (on_frame (encode k o c)) a ≡ 0 →
    encode_answer k o c ≡ encoded_as (Some (frame_of (message k o c)))
unfolding encode_of
encode_answers k o c a z = go (in_list (message k o c)) (rw (outside k o c) at z)
  where
    go : (t : Bool) → ◌≡◌ {A = ℕ} (cond (not t) 4 0) 0 →
        encoded_as (cond t (Some (frame_of (message k o c))) None) ≡
        encoded_as (Some (frame_of (message k o c)))
    go true z = refl
    go false z = absurd (omega arith)

count_answers : (f : ℕ) (a : List ℕ) → due (on_frame (poll_count f)) a ≡ 0 →
    pollAnswer f ≡ counted (decoding f).offset
count_answers f a z = count_is f ∙ go (eqb (kind_at f) idy) (rw (no_idy f) at z)
  where
    go : (t : Bool) → ◌≡◌ {A = ℕ} (cond (not t) 4 0) 0 →
        cond t (counted (decoding f).offset) (no_count bad_frame) ≡ counted (decoding f).offset
    go true z = refl
    go false z = absurd (omega arith)

pub demand_2 : Demand2
demand_2 =
    record {
      obeyed =
          record {
            leaves = hop_leaves_lem;
            answers = hop_answers;
            drains = drain_hops;
            puts = λ f a j h r. put_leaves a j f h r;
            takes_out = λ f fs a j e. take_leaves a j f fs e;
            local_calls = λ c i a j h z. local_call_leaves a j c i h z;
            tells_owed = λ a j. owed_told a j.sound;
            sets_up = set_up_leaves;
            saves = saved_out;
            opening = opened_as;
            decodes = λ f a h. ap (λ (r : DecodeAnswer). after (decoded r) a) (decode_answers f h);
            encodes = λ k o c a z. ap (λ (r : EncodeAnswer). after (encoded r) a) (encode_answers k o c a z);
            counts = λ f a z. ap (λ (r : PollAnswer). after (polled r) a) (count_answers f a z);
            walks_past = λ f t a z. walk_done f t a (refusal_due f t a ∙ z);
          };
      messages_in_order = in_order;
      decode_encode = decode_encode;
      encode_decode = encode_decode;
      kind_zero = kind_zero;
    }

pub saved_loops : SavedLoops
saved_loops =
    record {
      saved_long = saved-laws.saved_is_long;
      open_after_save = saved-laws.open_after_save;
      open_over = saved-laws.open_over;
      one_form = saved-laws.one_form;
      old_form = saved-laws.old_form;
      save_opened = saved-laws.save_opened;
      saved_once = saved-laws.saved_once;
    }

pub end_by_choice : EndByChoice
end_by_choice =
    record { where_asked = end_where_asked; only_asked = end_only_asked; old_opens = saved-laws.old_opens }

pub remote_local : RemoteLocal
remote_local =
    record {
      events_reported = events_reported;
      events_change_nothing = events_change_nothing;
      table = remote_table;
      others_leave_remote = others_leave_remote;
      ifc_leaves_remote = ifc_leaves_remote;
      only_enabled = only_enabled;
      gtl_only_listener = gtl_only_listener;
      key_only_unlocked = key_only_unlocked;
      any_remote = any_remote;
    }
