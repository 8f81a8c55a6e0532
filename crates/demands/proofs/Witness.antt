-- An area with empty links is that of an idle line, on which a frame goes round as a walk has it; header and records
-- left are written by the devices alone, and the four bytes of a hop's answer are what the line tells of it.
use Prim.Native.Nat.{ℕ, zero, suc, ◌*◌, ◌<◌}
use mathlib.Core.Path.{◌≡◌, refl, sym, ap, ◌∙◌}
use mathlib.Core.Bool.{Bool, true, false}
use mathlib.Core.Option
use mathlib.Core.Option.{Option, none, some}
use mathlib.Core.List.{List, [], ◌∷◌, ◌++◌, map, map-map, append_assoc, append-nil}
use native.Mathlib.Omega.{arith}
use lib.Dec.{ltb}
use lib.ListN.{length, take as first, drop, replicate, length-map}
use lib.Seq.{take_at, drop_at}
use borrow.Author.Tests.{lt-ltb, ne_eqb}
use Rattle.frame.specs.Messages.{frames}
use Rattle.device.specs.Take.{takes}
use Rattle.device.specs.Sent.{Sent}
use Rattle.device.specs.declared.Device.{Device}
use Rattle.record.specs.Record.{record_size, record_of}
use Rattle.record.proofs.Laws.{record_wide}
use Rattle.area.specs.Sizes.{header_size, record_at}
use Rattle.area.specs.Parts.{join}
use Rattle.area.specs.Link.{link_of}
use Rattle.area.specs.Loop.{Loop, count_in, size, loop_of, area_of, header_of, link, SoundLoop}
use Rattle.area.proofs.Each.{each_same}
use Rattle.area.proofs.Parts.{length_join}
use Rattle.area.proofs.Laws.{loop_back}
use Rattle.calls.specs.Calls.{refusal, put_in, no_take, take_in, no_hop, hop_in}
use Rattle.calls.specs.declared.HopAnswer.{HopAnswer}
use Rattle.calls.specs.Outcome.{Outcome, refuse, done, after}
use Rattle.calls.proofs.Lined as lined
use Rattle.calls.proofs.Lined.{both_refuse, both_do}
use Rattle.order.specs.Line as line
use Rattle.order.specs.Flat as flat
use Rattle.order.specs.History as told
use Rattle.order.specs.Through.{Every, Tells, calls_of}
use Rattle.order.proofs.Flat.{same_flat}
use Rattle.order.proofs.Idle.{idle_devices, idle_states}
use Rattle.walk.specs.Walk.{past, out_of, told_size, told_of, devices_in}
use Rattle.demands.specs.Calls.{Byte, numbers, called_by, Action, put, hop, take, walk, Answer, plain, hopped}
use Rattle.demands.specs.Calls.{taken, walked, pil}
use Rattle.demands.specs.Histories.{Step, call, Got, if, told_by, of_call, area_left, frames_taken}
use Rattle.demands.specs.Histories.{all_told, steps_refused, handed_over, accepted_by, papers, line_of}
use Rattle.demands.specs.Demands.{Judged, AllEmpty, records_of, hops_from, sent_round, Witnessed, PlainEngine}
use Rattle.demands.proofs.Bridge.{to_loop, Alike}
use Rattle.demands.proofs.Settled.{settle}
use Rattle.demands.proofs.Rendered.{R, Fair, area_is, good_is, taken_are, refused_are, read_those}
use Rattle.demands.proofs.Lined.{devices_are as line-devices, line_judged, loop_is, line_good, line_area}
use Rattle.demands.proofs.Third.{idle_loop, is_idle}
use Rattle.demands.proofs.Walks.{walk_done}
use Rattle.demands.proofs.Records.{devices_cut, judged_refusal, all_empty, same_refusals, all_passed}
use Rattle.demands.proofs.Alone.{left, happens, round, put_run, none_refused, taken_out, told_got, told_on}
use Rattle.demands.proofs.Alone.{ToldAs, told_as, told_on_lem}

-- ---- a hop's answer tells what its device got, and those of put and take tell nothing

hop_told : (i : ℕ) → Tells R (of_call [] told_by) told_on (call (hop i))
hop_told i l good = go (hop_in i (to_loop l)) (line.hop_at l i)
    (rw ((same_flat papers).same_hop l i) at
    (lined.hop_alike (λ d f. handed_over (takes d f).handed) (λ d c. accepted_by (called_by c d)) ToldAs
    (λ d f. told_as (takes d f).frame (takes d f).handed) i (flat.flat l)))
  where
    go : (o : Outcome HopAnswer) (p : Option (line.Loop papers × Option Got)) →
        Alike HopAnswer (Option Got) ToldAs o (Option.map (λ q. (flat.flat q.0, q.1)) p) →
        told_by (hop i) (settle hopped no_hop (to_loop l) o).1 ≡
        told.each told_on ((line.reply l (Option.map (λ q. (q.0, line.hopped i q.1)) p)).1 ++ [])
    go o none (both_refuse k z) = rw (ne_eqb k 0 z)
    go o (some q) (both_do r m x b e t) = rw (t.0, t.1) (sym (append-nil (told_got q.1)))

module _ (l : line.Loop papers) where
  said_none : {A : Type 0} (c : Action) (kind : A → Answer) (deny : ℕ → A) (o : Outcome A) →
      ((r : A) → told_by c (kind r) ≡ []) → told_by c (settle kind deny (to_loop l) o).1 ≡ []
  said_none c kind deny (refuse k) h = h (deny k)
  said_none c kind deny (done r n) h = h r

  none_on : {A : Type 0} (event : A → line.Loop papers × line.Event papers) (o : Option A) →
      ((x : A) → told_on (event x).1 ≡ []) → told.each told_on ((line.reply l (Option.map event o)).1 ++ []) ≡ []
  none_on event none h = refl
  none_on event (some x) h = rw (h x)

put_told : (f : ℕ) → Tells R (of_call [] told_by) told_on (call (put f))
put_told f l good = said_none l (put f) plain refusal (put_in f (to_loop l)) (λ r. refl) ∙ sym (go (ltb f frames))
  where
    go : (t : Bool) → told.each told_on (line.run l (if t (line.put f))).1 ≡ []
    go true = none_on l (λ l'. (l', line.was_put f)) (line.push l f) (λ l'. refl)
    go false = refl

take_told : Tells R (of_call [] told_by) told_on (call take)
take_told l good =
    said_none l take taken no_take (take_in (to_loop l)) (λ r. refl)
    ∙ sym (none_on l (λ p. (p.0, line.was_taken p.1)) (line.take_out l) (λ p. refl))

-- ---- the records that a walk leaves

-- header and records of devices
abbrev written : List Device → List ℕ
written ds = header_of (length ds) ++ join (map record_of ds)

records_written : (l : Loop) → records_of (area_of l) ≡ written l.devices
unfolding area_of
records_written l =
    rw (← (append_assoc (header_of (size l)) (join (map record_of l.devices)) (join (map link_of l.links))))
    (take_at (written l.devices) (join (map link_of l.links)) (record_at (size l))
    (rw (length_join record_of record_size record_wide l.devices) (omega arith)))

links_written : (l : Loop) → drop (record_at (size l)) (area_of l) ≡ join (map link_of l.links)
unfolding area_of
links_written l =
    rw (← (append_assoc (header_of (size l)) (join (map record_of l.devices)) (join (map link_of l.links))))
    (drop_at (written l.devices) (join (map link_of l.links)) (record_at (size l))
    (rw (length_join record_of record_size record_wide l.devices) (omega arith)))

past_long : (ds : List Device) (f : ℕ) → length (past ds f) ≡ length ds
unfolding past
past_long [] f = refl
past_long (d ∷ ds) f = ap suc (past_long ds (takes d f).frame)

left_long : (ds : List Device) (f : ℕ) → length (left ds f) ≡ length ds
left_long ds f = length-map (past ds f) (λ (s : Sent). s.device) ∙ past_long ds f

links_idle : (ds : List Device) →
    drop (record_at (length ds)) (area_of (to_loop (line.idle ds))) ≡ join (map link_of (replicate (suc (length ds)) []))
links_idle ds = rw (idle_loop ds) (links_written (record { devices = ds; links = replicate (suc (length ds)) [] }))

written_after : (ds : List Device) (f : ℕ) →
    first header_size (written ds) ++ join (map (λ (s : Sent). record_of s.device) (past ds f)) ≡
    written (left ds f)
written_after ds f =
    rw (length-map (past ds f) (λ (s : Sent). s.device), past_long ds f, map-map)

-- ---- the steps on the area of an idle line

after_hops : (P : Step → Type 0) (i n : ℕ) → ((j : ℕ) → P (call (hop j))) → P (call take) →
    Every P (hops_from i n ++ (call take ∷ []))
after_hops P i zero h t = (t, tt)
after_hops P i (suc n) h t = (h _, after_hops P (suc i) n h t)

round_is : (i n : ℕ) → calls_of R (hops_from i n ++ (call take ∷ [])) ≡ round i n
round_is i zero = refl
round_is i (suc n) = ap (λ (cs : List (line.Call papers)). line.hop i ∷ cs) (round_is (suc i) n)

module _ (ds : List Device) (good : SoundLoop (to_loop (line.idle ds))) (f : ℕ) (small : f < frames) where
  abbrev x : List ℕ
  x = area_of (to_loop (line.idle ds))

  abbrev ss : List Step
  ss = sent_round x f

  abbrev end : Loop
  end = to_loop (line.idle (left ds f))

  many : count_in (area_of (to_loop (line.idle ds))) ≡ length ds
  many = line-devices (line.idle ds) good ∙ idle_devices papers ds

  calls_are : calls_of R ss ≡ line.put f ∷ round 0 (length ds)
  calls_are =
      rw (lt-ltb f frames small)
      (ap (λ (cs : List (line.Call papers)). line.put f ∷ cs) (round_is 0 (count_in x) ∙ ap (round 0) many))

  ran : line.run (line.idle ds) (calls_of R ss) ≡ (line.idle (left ds f), line.was_put f ∷ happens 0 ds f)
  ran = rw calls_are (put_run ds f)

  happened : (line.run (line.idle ds) (calls_of R ss)).1 ≡ line.was_put f ∷ happens 0 ds f
  happened = ap (λ (p : line.Loop papers × List (line.Event papers)). p.1) ran

  area_left_lem : area_left x ss ≡ area_of end
  area_left_lem =
      area_is (line.idle ds) good ss
      ∙ ap (λ (p : line.Loop papers × List (line.Event papers)). area_of (to_loop p.0)) ran

  end_good : SoundLoop end
  end_good = rw ran at (good_is (line.idle ds) good ss)

  accepted : steps_refused x ss ≡ 0
  accepted =
      refused_are (line.idle ds) good ss
      (lt-ltb f frames small, after_hops Fair 0 (count_in x) (λ j. refl) refl)
      ∙ rw happened (omega (arith, none_refused 0 ds f))

  one_taken : frames_taken x ss ≡ out_of ds f ∷ []
  one_taken = taken_are (line.idle ds) good ss ∙ rw happened (taken_out 0 ds f)

  all_told_lem : all_told x ss ≡ join (map (λ (s : Sent). told_of s.handed) (past ds f))
  all_told_lem =
      read_those (line.idle ds) good ss (of_call [] told_by) told_on
      (put_told f, after_hops (Tells R (of_call [] told_by) told_on) 0 (count_in x) hop_told take_told)
      ∙ rw happened (told_on_lem 0 ds f)

  links_stay : drop (record_at (count_in x)) (area_left x ss) ≡ drop (record_at (count_in x)) x
  links_stay =
      ap (λ (b : List ℕ). drop (record_at (count_in x)) b) area_left_lem
      ∙ ap (λ (k : ℕ). drop (record_at k) (area_of end)) (many ∙ sym (left_long ds f))
      ∙ links_idle (left ds f)
      ∙ ap (λ (k : ℕ). join (map link_of (replicate (suc k) []))) (left_long ds f)
      ∙ sym (ap (λ (k : ℕ). drop (record_at k) x) many ∙ links_idle ds)

  empty_again : AllEmpty (area_left x ss)
  empty_again j =
      ap (λ (b : List ℕ). link (loop_of b) j) area_left_lem
      ∙ ap (λ (m : Loop). link m j) (loop_back end end_good ∙ idle_loop (left ds f))
      ∙ each_same (λ (q : List ℕ). q ≡ []) [] refl (suc (length (left ds f))) j

  -- the walk over the records of that area, and the records that the hops leave
  devices_are : devices_in (records_of x) ≡ ds
  devices_are =
      devices_cut x ∙ ap (λ (m : Loop). m.devices) (loop_back (to_loop (line.idle ds)) good) ∙ idle_states papers ds

  records_left : records_of (area_left x ss) ≡ first header_size (records_of x) ++ join
      (map (λ (s : Sent). record_of s.device) (past ds f))
  records_left =
      ap records_of area_left_lem ∙ records_written end ∙ ap written (idle_states papers (left ds f))
      ∙ sym (ap (λ (b : List ℕ). first header_size b ++ join (map (λ (s : Sent). record_of s.device) (past ds f)))
      (records_written (to_loop (line.idle ds)) ∙ ap written (idle_states papers ds))
      ∙ written_after ds f)

  walks_same : (t : List Byte) → length (numbers t) ≡ told_size * count_in x →
      pil (walk f t) (records_of x) ≡
      after (walked (record { frame = out_of ds f; refusal = 0 }) (all_told x ss)) (records_of (area_left x ss))
  walks_same t fit =
      walk_done f t (records_of x) (judged_refusal x (line_judged (line.idle ds) good) f (numbers t) small fit)
      ∙ rw (devices_are, all_told_lem, records_left)

  round_witnessed : (t : List Byte) → length (numbers t) ≡ told_size * count_in x → Witnessed x f t
  round_witnessed t fit =
      record {
        out = out_of ds f;
        accepted = accepted;
        one_taken = one_taken;
        links_stay = links_stay;
        empty_again = empty_again;
        same = walks_same t fit;
      }

-- ---- an area with empty links is that of an idle line

module _ (a : List ℕ) (j : Judged a) (empty : AllEmpty a) where
  abbrev states : List Device
  states = flat.states_of (line_of a)

  idle_line : line_of a ≡ line.idle states
  idle_line = is_idle (line_of a) (λ k. ap (λ (m : Loop). link m k) (loop_is a j) ∙ empty k)

  idle_area : area_of (to_loop (line.idle states)) ≡ a
  idle_area = ap (λ (l : line.Loop papers). area_of (to_loop l)) (sym idle_line) ∙ line_area a j

  idle_good : SoundLoop (to_loop (line.idle states))
  idle_good = rw idle_line at (line_good a j)

  area_witnessed : (f : ℕ) (t : List Byte) → f < frames → length (numbers t) ≡ told_size * count_in a → Witnessed a f t
  area_witnessed f t small fit = rw idle_area at (round_witnessed states idle_good f small t (rw idle_area fit))

pub plain_engine : PlainEngine
plain_engine =
    record {
      witnessed = λ a f t j empty. area_witnessed a j empty f t;
      same_refusals = λ a f t n. same_refusals a n f t;
      where_accepted = λ a f t bytes n fit e.
          let p = all_passed a n f t bytes fit e in
          area_witnessed a p.0 (all_empty a n) f t p.1 fit;
    }
