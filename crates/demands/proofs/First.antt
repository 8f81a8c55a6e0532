-- Demand 1, call by call: the tests of a call are the conditions of the table that concern it.
use Prim.Native.Nat.{ℕ, zero, suc}
use mathlib.Core.Path.{◌≡◌, refl, ap, ◌∙◌}
use mathlib.Core.Bool.{Bool, true, false, not, cond, ◌&&◌, ◌||◌}
use mathlib.Core.List.{List}
use native.Mathlib.Omega.{arith}
use lib.ListN.{length}
use lib.Dec.{eqb, ltb, leb}
use borrow.Author.Tests.{eqb-true, eqb-false, lt-ltb, le-ltb, ltb-true, ltb-false, leb-true, leb-false, le-leb}
use borrow.Author.Tests.{eq-eqb, ne_eqb}
use Rattle.std.specs.Prelude.{Some, None}
use Rattle.frame.specs.Messages.{frames, kind_at, messages, first_in, first_of, codes_in, codes_of}
use Rattle.frame.specs.Decoding.{message, idy, decoded as decoding, has_c1, offsets_of, c1s_of, frame_of}
use Rattle.frame.specs.Coding.{bad_frame, decode_of, in_list, encode_of}
use Rattle.frame.proofs.Rows.{within_kind, no_frame}
use Rattle.frame.proofs.Laws.{idy_kind}
use Rattle.coding.specs.Coding.{decoded_as, encoded_as}
use Rattle.poll_count.specs.Count.{no_count, counted, counted_as, poll_count as pollAnswer}
use Rattle.record.specs.Sound.{only, allowed}
use Rattle.area.specs.Sizes.{area_size, most_devices}
use Rattle.area.specs.Parts.{all}
use Rattle.area.specs.Loop.{Loop, count_in, loop_of, area_of, shaped, sound, device}
use Rattle.calls.specs.Outcome.{After, after, reads}
use Rattle.calls.specs.Calls.{no_take, no_hop, refusal, put_in, take_in, hop_in, local_in, load_in}
use Rattle.calls.specs.Drain.{no_drain, drain_in}
use Rattle.calls.specs.Owed.{no_owed, owed_in}
use Rattle.calls.specs.declared.OwedAnswer.{OwedAnswer}
use Rattle.calls.specs.SetUp.{devices_for, is_items, item_width, items_of, items_fit, powered_on, set_up_of, set_up_with}
use Rattle.saved.specs.Saved.{saved, saved_size, saved_count, saved_devices, formed, contents}
use Rattle.saved.specs.Older.{old, zero_choice_in, opened, sound_save}
use Rattle.saved.specs.Calls.{save_of, save_with, open_with}
use Rattle.walk.specs.Walk.{refusal_with, stays, walks, walk_with}
use Rattle.demands.specs.Calls.{Byte, numbers, Local, load, status, wish, key, poll_status, called_by, local_by}
use Rattle.demands.specs.Calls.{Action, put, hop, take, local, drain, owes, save, Call, on_area, set_up, opens}
use Rattle.demands.specs.Calls.{on_frame, decode, encode, poll_count, Answer, plain, hopped, taken, drained, owing}
use Rattle.demands.specs.Calls.{saving, decoded, encoded, polled, walk, told, pil, refusal_in, bare, acts}
use Rattle.demands.specs.Conditions.{devices_at, old_with_choice, bad_c1, BadFrame, due}
use Rattle.demands.specs.Demands.{Demand1}
use Rattle.demands.proofs.Away.{whole}
use Rattle.demands.proofs.Lengths.{found_at, at_is, shape_is, for_is}
use Rattle.demands.proofs.Refusals.{yes, Met, call_met, leb_turned, turned_lt, either_turned}
use Rattle.demands.proofs.Tests.{size_is, put_told, take_told, hop_told, local_told, load_told}
use Rattle.demands.proofs.Tests.{status_refusal, wish_refusal, poll_status_refusal, drain_told}
use Rattle.demands.proofs.Walks.{as_after, refusal_due}

-- a call held to a refusal, as demand 1 has it
record Held (c : Call) (a : List ℕ) (o : After Answer) (k : ℕ) : Type 0 where
  refused : refusal_in o.answer ≡ k
  unchanged : (k ≡ 0 → ⊥) → (o.answer ≡ bare c k) × (o.area ≡ a)

-- a plain answer held to a refusal: what is lent to write stays as it was where that is not 0
Right : List ℕ → After ℕ → ℕ → Type 0
Right lent o k = (o.answer ≡ k) × ((k ≡ 0 → ⊥) → (o.area ≡ lent))

-- a call that is done where two tests are passed, and refused with 1 and 2 where they are not
right : (lent x : List ℕ) (s t : Bool) →
    Right lent (cond s (cond t (after 0 x) (after 2 lent)) (after 1 lent)) (cond (not s) 1 (cond (not t) 2 0))
unfolding Right
right lent x true true = (refl, λ z. absurd (z refl))
right lent x true false = (refl, λ z. refl)
right lent x false t = (refl, λ z. refl)

-- the first two rows of the table are the judgement of the area, and the others what the call tells of the loop
module _ (a : List ℕ) where
  rows : ℕ → ℕ
  rows k = cond (eqb (devices_at (length a)) 0 || not (eqb (length a) (area_size (count_in a)))) 1
      (cond (not (sound a)) 2 k)

  held : (c : Action) (k : ℕ) → Held (on_area c) a (acts c a) (cond (not (shaped a)) 1 (cond (not (sound a)) 2 k)) →
      Held (on_area c) a (acts c a) (rows k)
  unfolding rows
  held c k h = rw (shape_is a) h

  plainly : (k : ℕ) {o : After ℕ} → Met refusal refusal a o k →
      (refusal_in (plain o.answer) ≡ k) × ((k ≡ 0 → ⊥) → (plain o.answer ≡ plain k) × (o.area ≡ a))
  plainly k m = (m.refusal, λ z. (ap plain (m.refused z).0, (m.refused z).1))

  put_held : (f : ℕ) → Held (on_area (put f)) a (pil (on_area (put f)) a) (due (on_area (put f)) a)
  unfolding rows
  put_held f =
      let m = call_met refusal refusal (λ k. refl) a (put_in f) _ (put_told f (loop_of a)) in
      let p = plainly _ m in held (put f) _ (record { refused = p.0; unchanged = p.1 })

  take_held : Held (on_area take) a (pil (on_area take) a) (due (on_area take) a)
  unfolding rows
  take_held =
      let t = rw (size_is a) at (take_told (loop_of a)) in
      let m = call_met _ no_take (λ k. refl) a take_in _ t in
      held take _ (record { refused = m.refusal; unchanged = λ z. (ap taken (m.refused z).0, (m.refused z).1) })

  hop_held : (i : ℕ) → Held (on_area (hop i)) a (pil (on_area (hop i)) a) (due (on_area (hop i)) a)
  unfolding rows
  hop_held i =
      let t = rw (size_is a) at (hop_told i (loop_of a)) in
      let m = call_met _ no_hop (λ k. refl) a (hop_in i) _ t in
      held (hop i) _ (record { refused = m.refusal; unchanged = λ z. (ap hopped (m.refused z).0, (m.refused z).1) })

  -- a choice that is none beside contents that are not sound
  either_two : (c s : Bool) (k : ℕ) → cond (not s) 2 (cond c 2 k) ≡ cond (c || not s) 2 k
  either_two true true k = refl
  either_two true false k = refl
  either_two false s k = refl

  load_held : (i : ℕ) (bs : List Byte) (e : ℕ) →
      Held (on_area (local i (load bs e))) a (pil (on_area (local i (load bs e))) a)
      (due (on_area (local i (load bs e))) a)
  unfolding rows
  load_held i bs e =
      let t = rw (size_is a) at (load_told i (numbers bs) e (loop_of a)) in
      let m = call_met refusal refusal (λ k. refl) a (load_in i (numbers bs) e) _ t in
      let p = plainly _ m in
      rw (either_two (ltb 1 e) (sound a)) at
      (held (local i (load bs e)) _ (record { refused = p.0; unchanged = p.1 }))

  -- a local call that only the device refuses, with k
  called_held : (i : ℕ) (c : Local) (k : ℕ) → ((l : Loop) → local_by c i l ≡ local_in (called_by c) i l) →
      (called_by c (device (loop_of a) i)).refusal ≡ k →
      Held (on_area (local i c)) a (pil (on_area (local i c)) a) (rows (cond (leb (count_in a) i) 3 k))
  called_held i c k same e =
      let t = rw (size_is a, e, ← same (loop_of a)) at (local_told (called_by c) i (loop_of a)) in
      let m = call_met refusal refusal (λ k. refl) a (local_by c i) _ t in
      let p = plainly _ m in held (local i c) _ (record { refused = p.0; unchanged = p.1 })

  local_held : (i : ℕ) (c : Local) →
      Held (on_area (local i c)) a (pil (on_area (local i c)) a) (due (on_area (local i c)) a)
  unfolding rows
  local_held i (load bs e) = load_held i bs e
  local_held i (status s) =
      called_held i (status s) _ (λ l. refl) (status_refusal (device (loop_of a) i) s.value)
  local_held i (wish w) = called_held i (wish w) _ (λ l. refl) (wish_refusal (device (loop_of a) i) w)
  local_held i key = called_held i key 0 (λ l. refl) refl
  local_held i (poll_status s) =
      called_held i (poll_status s) _ (λ l. refl) (poll_status_refusal (device (loop_of a) i) s)

  drain_held : (b : ℕ) → Held (on_area (drain b)) a (pil (on_area (drain b)) a) (due (on_area (drain b)) a)
  unfolding rows
  drain_held b =
      let m = call_met _ no_drain (λ k. refl) a (drain_in b) _ (drain_told b 0 (loop_of a)) in
      held (drain b) _ (record {
        refused = m.refusal;
        unchanged = λ z.
            (ap drained (m.refused z).0, (m.refused z).1);
      })

  owes_held : Held (on_area owes) a (pil (on_area owes) a) (due (on_area owes) a)
  unfolding rows
  owes_held =
      let m = call_met (λ (r : OwedAnswer). r.refusal) no_owed (λ k. refl) a (reads owed_in) 0 (yes _ _ refl) in
      held owes 0 (record { refused = m.refusal; unchanged = λ z. (ap owing (m.refused z).0, refl) })

  -- a save: the output's length beside the area's
  both_turned : (s t : Bool) → (not t || not s) ≡ not (s && t)
  both_turned true true = refl
  both_turned true false = refl
  both_turned false true = refl
  both_turned false false = refl

  save_held : (out : List Byte) → Held (on_area (save out)) a (pil (on_area (save out)) a) (due (on_area (save out)) a)
  unfolding save_with Right
  save_held out =
      let fits = eqb (length (numbers out)) (saved_size (count_in a)) in
      let m : Right (numbers out) (save_of a (numbers out))
      (cond (not fits || not (shaped a)) 1 (cond (not (sound a)) 2 0)) =
      rw (both_turned (shaped a) fits) (right (numbers out) (saved a) (shaped a && fits) (sound a)) in
      rw (shape_is a)
      (record {
        refused = m.0;
        unchanged = λ z. (ap (λ (o : After ℕ). saving o.answer o.area) (whole m.0 (m.1 z)), refl);
      })

  action_held : (c : Action) → Held (on_area c) a (pil (on_area c) a) (due (on_area c) a)
  action_held (put f) = put_held f
  action_held (hop i) = hop_held i
  action_held take = take_held
  action_held (local i c) = local_held i c
  action_held (drain b) = drain_held b
  action_held owes = owes_held
  action_held (save out) = save_held out

-- ---- set up: the n of the area's length, found by a division

module _ (a : List ℕ) (bytes : List Byte) where
  items : List ℕ
  items = numbers bytes

  D : ℕ
  D = devices_at (length a)

  -- no number of devices has this length
  unfit : D ≡ 0 → (n : ℕ) → items_fit most_devices n a items ≡ false
  unfolding D items_fit
  unfit z n = go (leb 1 n) (leb n most_devices) (eqb (length a) (area_size n)) refl refl refl
    where
      go : (p q r : Bool) → leb 1 n ≡ p → leb n most_devices ≡ q → eqb (length a) (area_size n) ≡ r →
          ((p && q) && (r && is_items (length items) n)) ≡ false
      go true true true e f g =
          let w : length a ≡ area_size n = eqb-true _ _ g in
          let d : devices_at (length a) ≡ n = ap devices_at w ∙ at_is n (leb-true _ _ e) (leb-true _ _ f) in
          absurd (omega (arith, leb-true 1 n e))
      go true true false e f g = refl
      go true false r e f g = refl
      go false q r e f g = refl

  fit : (D ≡ 0 → ⊥) → items_fit most_devices D a items ≡ is_items (length items) D
  unfolding D items_fit
  fit h = let f = found_at (length a) h in rw (le-leb _ _ f.some, le-leb _ _ f.few, eq-eqb _ _ f.long)

  set_up_right : Right a (set_up_of a items) (due (set_up bytes) a)
  unfolding set_up_with Right D items is_items item_width
  set_up_right = go (eqb (devices_at (length a)) 0) refl
    where
      go : (z : Bool) → eqb (devices_at (length a)) 0 ≡ z →
          Right a (cond (items_fit most_devices (devices_for (length a)) a items)
          (cond (all allowed (items_of (devices_for (length a)) items))
          (after 0 (area_of (powered_on (devices_for (length a)) items))) (after 2 a)) (after 1 a))
          (cond (z || not (is_items (length items) (devices_at (length a)))) 1
          (cond (not (all allowed (items_of (devices_at (length a)) items))) 2 0))
      go true e = rw (unfit (eqb-true _ _ e) (devices_for (length a))) (refl, λ z. refl)
      go false e =
          let h = eqb-false (devices_at (length a)) 0 e in
          rw (for_is (length a) h, fit h)
          (right a (area_of (powered_on (devices_at (length a)) items))
          (is_items (length items) (devices_at (length a)))
          (all allowed (items_of (devices_at (length a)) items)))

  set_up_held : Held (set_up bytes) a (pil (set_up bytes) a) (due (set_up bytes) a)
  unfolding Right items
  set_up_held = let r = set_up_right in record { refused = r.0; unchanged = λ z. (ap plain r.0, r.1 z) }

-- ---- opening: the form of the save before the two tests

-- an old save with a choice beside contents that are not sound
unsound_save : (s : List ℕ) → not (sound_save s) ≡ (not (sound (contents s)) || old_with_choice s)
unfolding sound_save
unsound_save s = go (sound (contents s)) (old s) (all zero_choice_in (saved_devices s))
  where
    go : (x y z : Bool) → not (x && only y z) ≡ (not x || (y && not z))
    go true true true = refl
    go true true false = refl
    go true false z = refl
    go false y z = refl

opens_held : (s : List Byte) (a : List ℕ) → Held (opens s) a (pil (opens s) a) (due (opens s) a)
unfolding open_with Right
opens_held s a = rw (← unsound_save (numbers s)) (go (formed most_devices (numbers s)))
  where
    lengths : Bool
    lengths = eqb (length a) (area_size (saved_count (numbers s)))

    go : (f : Bool) → Held (opens s) a
        (told plain (cond f (cond lengths (cond (sound_save (numbers s)) (after 0 (opened (numbers s)))
        (after 2 a)) (after 1 a)) (after 10 a)))
        (cond (not f) 10 (cond (not lengths) 1 (cond (not (sound_save (numbers s))) 2 0)))
    go true = let m = right a (opened (numbers s)) lengths (sound_save (numbers s)) in
        record { refused = m.0; unchanged = λ z. (ap plain m.0, m.1 z) }
    go false = record { refused = refl; unchanged = λ z. (refl, refl) }

-- ---- decoder and encoder

decode_held : (f : ℕ) (a : List ℕ) →
    Held (on_frame (decode f)) a (pil (on_frame (decode f)) a) (due (on_frame (decode f)) a)
unfolding decode_of
decode_held f a = rw (turned_lt f frames 4 0) (go (ltb f frames))
  where
    go : (t : Bool) → Held (on_frame (decode f)) a
        (after (decoded (decoded_as (cond t (Some (decoding f)) None))) a) (cond t 0 4)
    go true = record { refused = refl; unchanged = λ z. absurd (z refl) }
    go false = record { refused = refl; unchanged = λ z. (refl, refl) }

-- a C1 outside the table is none of the values that the kind's C1 has
c1_turned : (k c : ℕ) → bad_c1 k c ≡ not (ltb c (c1s_of k))
unfolding c1s_of
c1_turned k c = go c (has_c1 k) refl
  where
    go : (c : ℕ) (t : Bool) → has_c1 k ≡ t → bad_c1 k c ≡ not (ltb c (cond (has_c1 k) 2 1))
    go zero true e = rw e
    go zero false e = rw e
    go (suc zero) true e = rw e
    go (suc zero) false e = rw e
    go (suc (suc zero)) true e = rw e
    go (suc (suc zero)) false e = rw e
    go (suc (suc (suc c))) true e =
        rw (e, lt-ltb 1 (suc (suc (suc c))) (omega arith), le-ltb (suc (suc (suc c))) 2 (omega arith))
    go (suc (suc (suc c))) false e =
        rw (e, lt-ltb 1 (suc (suc (suc c))) (omega arith), le-ltb (suc (suc (suc c))) 1 (omega arith))

-- the encoder's row of the table is that they are not in the list
pub outside : (k o c : ℕ) → BadFrame (on_frame (encode k o c)) ≡ not (in_list (message k o c))
outside k o c =
    rw (leb_turned o (offsets_of k), c1_turned k c) (either_turned (ltb o (offsets_of k)) (ltb c (c1s_of k)))

encode_held : (k o c : ℕ) (a : List ℕ) →
    Held (on_frame (encode k o c)) a (pil (on_frame (encode k o c)) a) (due (on_frame (encode k o c)) a)
unfolding encode_of
encode_held k o c a = rw (outside k o c) (go (in_list (message k o c)))
  where
    go : (t : Bool) → Held (on_frame (encode k o c)) a
        (after (encoded (encoded_as (cond t (Some (frame_of (message k o c))) None))) a)
        (cond (not t) 4 0)
    go true = record { refused = refl; unchanged = λ z. absurd (z refl) }
    go false = record { refused = refl; unchanged = λ z. (refl, refl) }

-- the count's row of the table is that the frame is no IDY
pub no_idy : (f : ℕ) → BadFrame (on_frame (poll_count f)) ≡ not (eqb (kind_at f) idy)
unfolding messages first_in first_of codes_in codes_of
no_idy f = go (ltb f (first_of idy)) (leb frames f) refl refl
  where
    go : (p q : Bool) → ltb f (first_of idy) ≡ p → leb frames f ≡ q → (p || q) ≡ not (eqb (kind_at f) idy)
    go true q e g =
        let h = ltb-true f (first_of idy) e in
        rw (ne_eqb (kind_at f) idy (λ k. omega (arith, h, within_kind f 42 k (omega arith))))
    go false true e g =
        let h = leb-true frames f g in
        rw (ne_eqb (kind_at f) idy (λ k. omega (arith, h, within_kind f 42 k (omega arith))))
    go false false e g =
        rw (eq-eqb (kind_at f) idy (idy_kind f (ltb-false f (first_of idy) e) (leb-false frames f g)))

-- so the count's answer goes by that alone: what is no frame is of kind 0
pub count_is : (f : ℕ) → pollAnswer f ≡ cond (eqb (kind_at f) idy) (counted (decoding f).offset) (no_count bad_frame)
unfolding decode_of
count_is f = go (ltb f frames) refl
  where
    go : (t : Bool) → ltb f frames ≡ t → counted_as (cond t (Some (decoding f)) None) ≡
        cond (eqb (kind_at f) idy) (counted (decoding f).offset) (no_count bad_frame)
    go true e = refl
    go false e = rw (no_frame f (ltb-false f frames e))

count_held : (f : ℕ) (a : List ℕ) →
    Held (on_frame (poll_count f)) a (pil (on_frame (poll_count f)) a) (due (on_frame (poll_count f)) a)
count_held f a = rw (no_idy f, count_is f) (go (eqb (kind_at f) idy))
  where
    go : (t : Bool) → Held (on_frame (poll_count f)) a
        (after (polled (cond t (counted (decoding f).offset) (no_count bad_frame))) a) (cond (not t) 4 0)
    go true = record { refused = refl; unchanged = λ z. absurd (z refl) }
    go false = record { refused = refl; unchanged = λ z. (refl, refl) }

-- ---- the walk

walk_held : (f : ℕ) (t : List Byte) (a : List ℕ) → Held (walk f t) a (pil (walk f t) a) (due (walk f t) a)
unfolding walk_with
walk_held f t a = rw (← refusal_due f t a) (go (refusal_with most_devices a f (numbers t)) _ refl)
  where
    go : (k : ℕ) (z : Bool) → eqb k 0 ≡ z →
        Held (walk f t) a (as_after (cond z (walks a f) (stays k a (numbers t)))) k
    go k true e = let n : k ≡ 0 = eqb-true _ _ e in rw n (record { refused = refl; unchanged = λ z. absurd (z refl) })
    go k false e = record { refused = refl; unchanged = λ z. (refl, refl) }

call_held : (c : Call) (a : List ℕ) → Held c a (pil c a) (due c a)
call_held (on_area c) a = action_held a c
call_held (set_up items) a = set_up_held a items
call_held (opens s) a = opens_held s a
call_held (on_frame (decode f)) a = decode_held f a
call_held (on_frame (encode k o c)) a = encode_held k o c a
call_held (on_frame (poll_count f)) a = count_held f a
call_held (walk f t) a = walk_held f t a

pub demand_1 : Demand1
demand_1 = record { by_table = λ c a. (call_held c a).refused; changes_nothing = λ c a. (call_held c a).unchanged }

-- ---- a set-up that is not refused

pub record SetsUp (a : List ℕ) (bytes : List Byte) (n : ℕ) : Type 0 where
  pub fits : items_fit most_devices n a (numbers bytes) ≡ true
  pub allows : all allowed (items_of n (numbers bytes)) ≡ true
  pub leaves : (pil (set_up bytes) a).area ≡ area_of (powered_on n (numbers bytes))

pub sets_up : (a : List ℕ) (bytes : List Byte) → due (set_up bytes) a ≡ 0 → SetsUp a bytes (devices_at (length a))
unfolding set_up_with D items is_items item_width
sets_up a bytes z = go (eqb (devices_at (length a)) 0) refl z
  where
    rest : (h : devices_at (length a) ≡ 0 → ⊥) (s t : Bool) →
        is_items (length (numbers bytes)) (devices_at (length a)) ≡ s →
        all allowed (items_of (devices_at (length a)) (numbers bytes)) ≡ t →
        ◌≡◌ {A = ℕ} (cond (not s) 1 (cond (not t) 2 0)) 0 → SetsUp a bytes (devices_at (length a))
    rest h true true e f q =
        record {
          fits = fit a bytes h ∙ e;
          allows = f;
          leaves = rw (for_is (length a) h, fit a bytes h, e, f);
        }
    rest h true false e f q = absurd (omega arith)
    rest h false t e f q = absurd (omega arith)

    go : (b : Bool) → eqb (devices_at (length a)) 0 ≡ b →
        ◌≡◌ {A = ℕ} (cond (b || not (is_items (length (numbers bytes)) (devices_at (length a)))) 1
        (cond (not (all allowed (items_of (devices_at (length a)) (numbers bytes)))) 2 0)) 0 →
        SetsUp a bytes (devices_at (length a))
    go true e q = absurd (omega arith)
    go false e q = rest (eqb-false (devices_at (length a)) 0 e) _ _ refl refl q
