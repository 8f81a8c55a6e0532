-- What the demands shut out: each by a small loop, on which a call's outcome is computed.
use Prim.Native.Nat.{ℕ, zero, suc, ◌<◌}
use mathlib.Core.Path.{◌≡◌, refl, sym, ap, ◌∙◌}
use mathlib.Core.Bool.{true}
use mathlib.Core.Option.{Option, none, some}
use mathlib.Core.List.{List, [], ◌∷◌}
use native.Mathlib.Omega.{arith}
use lib.Dec.{ltb, lit<}
use lib.ListN.{replicate}
use borrow.Author.Tests.{ltb-true}
use Rattle.frame.specs.Messages.{messages, kind_at, lookup, within, first_in, first_of}
use Rattle.frame.specs.Decoding.{has_c1, offset_in, c1_in}
use Rattle.device.specs.Choose.{choose}
use Rattle.device.specs.PowerOn.{power_on, bytes_from}
use Rattle.device.specs.Ready.{aad}
use Rattle.device.specs.Take.{takes_simple, takes}
use Rattle.device.specs.declared.Device.{Device}
use Rattle.device.specs.declared.Handed.{Handed}
use Rattle.device.specs.declared.Handed.TheVariants as handed
use Rattle.record.specs.Record.{device_of, record_of, zeros}
use Rattle.record.specs.Parts.{splice}
use Rattle.record.specs.Sound.{sound_device, sound_record}
use Rattle.record.specs.Fits.{Bytes}
use Rattle.record.proofs.Both.{left, right}
use Rattle.area.specs.Parts.{parts, join, all}
use Rattle.area.specs.Link.{frames_of, link_of, sound_slot, sound_link}
use Rattle.area.specs.Loop.{count_in, loop_of, area_of, shaped_with, sound, judge_with, device, link}
use Rattle.calls.specs.Outcome.{After, call_with}
use Rattle.calls.specs.Calls.{hop_answer, hop_in, load_in}
use Rattle.saved.specs.Saved.{saved, formed}
use Rattle.saved.specs.Calls.{open_with, open_of}
use Rattle.saved.proofs.Laws.{open_saved, saved_bytes}
use Rattle.demands.specs.Calls.{Byte, numbers, Action, put, hop, drain, save, Call, on_area, opens, walk, Answer}
use Rattle.demands.specs.Calls.{hopped}
use Rattle.demands.specs.Conditions.{due}
use Rattle.demands.specs.Histories.{Got, got, reported, handed_by, hops_by}
use Rattle.demands.specs.Drains.{highest_of, stops_before, once_hopped, by_hops}
use Rattle.demands.specs.Demands.{Judged, CanHop, ruled, hop_leaves, Obeys, records_of}
use Rattle.demands.proofs.First.{demand_1}
use Rattle.teeth.specs.Teeth.{RefuserShutOut, LowestGiven, TenFirst, ChoiceFirst, frame_in, kind_in}
use Rattle.teeth.specs.Teeth.{OneKindShutOut, PasserShutOut, WorkerShutOut, InventedCountShutOut}

-- ---- three loops: fresh devices that can be auto-addressed, and AAD 0 before the first, or nothing

abbrev fresh : Device
fresh = power_on (32 ∷ 31 ∷ [])

abbrev one : List ℕ
one = area_of (record { devices = fresh ∷ []; links = (0x580 ∷ []) ∷ [] ∷ [] })

abbrev two : List ℕ
two = area_of (record { devices = fresh ∷ fresh ∷ []; links = (0x580 ∷ []) ∷ [] ∷ [] ∷ [] })

abbrev still : List ℕ
still = area_of (record { devices = fresh ∷ []; links = [] ∷ [] ∷ [] })

are_bytes : (b : List ℕ) → all (λ x. ltb x 256) b ≡ true → Bytes b
unfolding all
are_bytes [] h i = omega arith
are_bytes (x ∷ b) h zero = ltb-true x 256 (left (ltb x 256) _ h)
are_bytes (x ∷ b) h (suc i) = are_bytes b (right (ltb x 256) _ h) i

one_can : CanHop 0 0x580 [] one
unfolding power_on bytes_from device_of record_of zeros sound_device sound_record parts join all frames_of link_of sound_slot
    sound_link loop_of area_of shaped_with sound judge_with
one_can =
    record {
      judged = record { bytes = are_bytes one refl; sound = refl };
      there = omega arith;
      oldest = refl;
      room = omega arith;
    }

two_can : CanHop 0 0x580 [] two
unfolding power_on bytes_from device_of record_of zeros sound_device sound_record parts join all frames_of link_of sound_slot
    sound_link loop_of area_of shaped_with sound judge_with
two_can =
    record {
      judged = record { bytes = are_bytes two refl; sound = refl };
      there = omega arith;
      oldest = refl;
      room = omega arith;
    }

still_judged : Judged still
unfolding power_on bytes_from device_of record_of zeros sound_device sound_record parts join all frames_of link_of sound_slot
    sound_link loop_of area_of shaped_with sound judge_with
still_judged = record { bytes = are_bytes still refl; sound = refl }

-- ---- demand 1

abbrev zero_bytes : ℕ → List Byte
zero_bytes n = replicate n (record { value = 0; small = lit< tt })

accepted : (due (on_area (put 0)) one ≡ 0) × (due (on_area (hop 0)) one ≡ 0) ×
    (due (on_area (save (zero_bytes 116))) one ≡ 0) × (due (walk 0 (zero_bytes 4)) (records_of one) ≡ 0)
unfolding power_on bytes_from device_of record_of zeros sound_device sound_record parts join all frames_of link_of sound_slot
    sound_link loop_of area_of shaped_with sound judge_with
accepted = (refl, refl, refl, refl)

-- numbers below 256 as bytes
as_bytes : (b : List ℕ) → Bytes b → List Byte
as_bytes [] h = []
as_bytes (x ∷ b) h = record { value = x; small = h 0 } ∷ as_bytes b (λ i. h (suc i))

numbers_back : (b : List ℕ) (h : Bytes b) → numbers (as_bytes b h) ≡ b
unfolding as_bytes
numbers_back [] h = refl
numbers_back (x ∷ b) h = ap (λ (r : List ℕ). x ∷ r) (numbers_back b (λ i. h (suc i)))

-- the save of the loop, opened over it
its_save : List Byte
its_save = as_bytes (saved one) (saved_bytes one one_can.judged.bytes)

opened : due (opens its_save) one ≡ 0
unfolding its_save
opened =
    sym (demand_1.by_table (opens its_save) one)
    ∙ ap (λ (b : List ℕ). (open_of one b).answer) (numbers_back (saved one) (saved_bytes one one_can.judged.bytes))
    ∙ ap (λ (o : After ℕ). o.answer) (open_saved one one one_can.judged.sound refl)

pub refuser_shut_out : RefuserShutOut
refuser_shut_out =
    record {
      of_puts = λ model never r. never 0 one (r.by_table (on_area (put 0)) one ∙ accepted.0);
      of_hops = λ model never r. never 0 one (r.by_table (on_area (hop 0)) one ∙ accepted.1);
      of_saves = λ model never r. never 116 one (r.by_table (on_area (save (zero_bytes 116))) one ∙ accepted.2);
      of_openings = λ model never r. never its_save one (r.by_table (opens its_save) one ∙ opened);
      of_walks = λ model never r. never 0 (zero_bytes 4) (records_of one)
          (r.by_table (walk 0 (zero_bytes 4)) (records_of one) ∙ accepted.3);
    }

pub lowest_given : LowestGiven
unfolding power_on bytes_from device_of record_of zeros sound_device sound_record parts join all frames_of link_of sound_slot
    sound_link loop_of area_of shaped_with sound judge_with call_with hop_in
lowest_given = record { five = refl; six = refl; given = refl }

pub ten_first : TenFirst
unfolding formed open_with
ten_first = record { ten = refl; one = refl; given = refl }

pub choice_first : ChoiceFirst
unfolding power_on bytes_from device_of record_of zeros sound_device sound_record parts join all frames_of link_of sound_slot
    sound_link loop_of area_of shaped_with sound judge_with call_with load_in
choice_first = record { two = refl; three = refl; given = refl }

-- ---- demand 2

-- AAD 0 goes on as AAD 1, in the answer and in the area,
answered : (f : ℕ) (h : Handed) → frame_in (hopped (hop_answer f h)) ≡ f
answered f handed.Nothing = refl
answered f (handed.Byte b e) = refl
answered f handed.Clear = refl
answered f handed.Trigger = refl

sent_on : (ruled 0 0x580 one).frame ≡ 0x581
unfolding messages kind_at lookup within first_in first_of has_c1 offset_in c1_in choose power_on bytes_from
    aad takes_simple takes
    device_of record_of parts join link_of frames_of loop_of area_of
sent_on = refl

left_on : (link (loop_of one) 1 ≡ []) × (link (loop_of (hop_leaves 0 0x580 one)) 1 ≡ 0x581 ∷ [])
unfolding messages kind_at lookup within first_in first_of has_c1 offset_in c1_in choose power_on bytes_from
    aad takes_simple takes
    device_of record_of parts join link_of frames_of loop_of area_of splice
left_on = (refl, refl)

-- and the second device waits
waits : (device (loop_of (hop_leaves 0 0x580 two)) 1).configured ≡ 0
unfolding messages kind_at lookup within first_in first_of has_c1 offset_in c1_in choose power_on bytes_from
    aad takes_simple takes
    device_of record_of parts join link_of frames_of loop_of area_of splice
waits = refl

both_there : 1 < count_in two
unfolding area_of
both_there = omega arith

works : (takes (device (loop_of two) 1) (ruled 0 0x580 two).frame).device.configured ≡ 1
unfolding messages kind_at lookup within first_in first_of has_c1 offset_in c1_in choose power_on bytes_from
    aad takes_simple takes
    device_of record_of parts join link_of frames_of loop_of area_of splice
works = refl

-- AAD can hop, and where nothing is under way nothing can
who : (highest_of one (count_in one) ≡ some 0) × (highest_of still (count_in still) ≡ none)
unfolding power_on bytes_from device_of record_of zeros sound_device sound_record parts join all frames_of link_of sound_slot
    sound_link loop_of area_of shaped_with sound judge_with
who = (refl, refl)

module _ (model : Call → List ℕ → After Answer) (o : Obeys model) where
  answers_on : frame_in (model (on_area (hop 0)) one).answer ≡ 0x581
  answers_on = ap frame_in (o.answers 0 0x580 [] one one_can)
      ∙ answered (ruled 0 0x580 one).frame (ruled 0 0x580 one).handed ∙ sent_on

  leaves_on : link (loop_of (model (on_area (hop 0)) one).area) 1 ≡ 0x581 ∷ []
  leaves_on = ap (λ (x : List ℕ). link (loop_of x) 1) (o.leaves 0 0x580 [] one one_can) ∙ left_on.1

  leaves_waiting : (device (loop_of (model (on_area (hop 0)) two).area) 1).configured ≡ 0
  leaves_waiting = ap (λ (x : List ℕ). (device (loop_of x) 1).configured) (o.leaves 0 0x580 [] two two_can) ∙ waits

  -- a drain with no budget left makes no hop more, whatever can hop
  spent : (c : Action) (h : ℕ) (a : List ℕ) → hops_by c (by_hops model 0 h a).answer ≡ h
  spent c h a = go (highest_of a (count_in a))
    where
      go : (p : Option ℕ) →
          let x : After Answer = elim p [ none ↦ stops_before 0 h a | some i ↦ stops_before 1 h a ] in
          hops_by c x.answer ≡ h
      go none = refl
      go (some i) = refl

  -- a drain's first turn, with a budget of one
  turn : List ℕ → Option ℕ → After Answer
  turn a p =
      elim p [
        | none ↦ stops_before 0 0 a
        | some i ↦ once_hopped i 1 (by_hops model 0 1) (handed_by i (hop i) (model (on_area (hop i)) a).answer)
            (model (on_area (hop i)) a).area
      ]

  counts_one : hops_by (drain 1) (by_hops model 1 0 one).answer ≡ 1
  unfolding turn
  counts_one = ap (λ (p : Option ℕ). hops_by (drain 1) (turn one p).answer) who.0
      ∙ go (handed_by 0 (hop 0) (model (on_area (hop 0)) one).answer)
    where
      go : (gs : List Got) → hops_by (drain 1)
          (once_hopped 0 1 (by_hops model 0 1) gs (model (on_area (hop 0)) one).area).answer ≡ 1
      go [] = spent (drain 1) 1 (model (on_area (hop 0)) one).area
      go (got b e ∷ gs) = refl
      go (reported k ∷ gs) = refl

  counts_none : hops_by (drain 1) (by_hops model 1 0 still).answer ≡ 0
  unfolding turn
  counts_none = ap (λ (p : Option ℕ). hops_by (drain 1) (turn still p).answer) who.1

two_kinds : (kind_at 0 ≡ 1) × (kind_at 0x200 ≡ 2)
unfolding messages kind_at lookup within
two_kinds = (refl, refl)

pub one_kind_shut_out : OneKindShutOut
one_kind_shut_out k model same o =
    omega (
      arith,
      same 0 [] (omega arith),
      ap (λ (x : After Answer). kind_in x.answer) (o.decodes 0 [] (omega arith)),
      same 0x200 [] (omega arith),
      ap (λ (x : After Answer). kind_in x.answer) (o.decodes 0x200 [] (omega arith)),
      two_kinds,
    )

pub passer_shut_out : PasserShutOut
passer_shut_out =
    record {
      answering = λ model same o. omega (arith, same 0 0x580 [] one one_can, answers_on model o);
      leaving = λ model same o. untouched (sym (leaves_on model o) ∙ same 0 0x580 [] one one_can ∙ rw left_on.0);
    }
  where
    untouched : ◌≡◌ {A = List ℕ} (0x581 ∷ []) (0x580 ∷ []) → ⊥
    untouched e = let z : ◌≡◌ {A = ℕ} 0x581 0x580 = cc in omega arith

pub worker_shut_out : WorkerShutOut
worker_shut_out model does o =
    let z : ◌≡◌ {A = ℕ} 0 1 = sym (leaves_waiting model o)
    ∙ ap (λ (d : Device). d.configured) (does 0x580 [] two two_can both_there) ∙ works in
    omega arith

pub invented_count_shut_out : InventedCountShutOut
invented_count_shut_out count model says o =
    omega (
      arith,
      says 1 one,
      ap (λ (x : After Answer). hops_by (drain 1) x.answer) (o.drains 1 one one_can.judged),
      counts_one model o,
      says 1 still,
      ap (λ (x : After Answer). hops_by (drain 1) x.answer) (o.drains 1 still still_judged),
      counts_none model o,
    )
