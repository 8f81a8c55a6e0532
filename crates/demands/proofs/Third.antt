-- Demand 3: an area without a refusal is that of a line, a history on it is one of the line, whose order does not
-- matter, and the line's history in turn can be made by calls on the area. A set-up leaves the area of an idle line.
use Prim.Native.Nat.{ℕ, zero, suc, ◌+◌, ◌*◌, ◌<◌}
use mathlib.Core.Path.{◌≡◌, refl, sym, ap, ◌∙◌}
use mathlib.Core.List.{List, [], ◌∷◌, map}
use native.Mathlib.Omega.{arith}
use lib.ListN.{length, get_or, replicate, length-map}
use borrow.Author.Tests.{lt-ltb}
use Rattle.frame.specs.Messages.{frames}
use Rattle.device.specs.PowerOn.{power_on}
use Rattle.device.specs.declared.Device.{Device}
use Rattle.area.specs.Sizes.{most_devices}
use Rattle.area.specs.Loop.{Loop, count_in, loop_of, area_of, link, SoundLoop}
use Rattle.area.proofs.Parts.{length_parts}
use Rattle.area.proofs.Laws.{loop_back}
use Rattle.calls.specs.Outcome.{After}
use Rattle.calls.specs.SetUp.{items_of, powered_on}
use Rattle.calls.proofs.Powered.{set_up_sound}
use Rattle.saved.specs.Calls.{open_of}
use Rattle.saved.proofs.Laws.{opened_bytes}
use Rattle.order.specs.Line as line
use Rattle.order.specs.Flat as flat
use Rattle.order.specs.History as told
use Rattle.order.specs.Owed.{owed}
use Rattle.order.specs.RightRound.{first, one_by_one}
use Rattle.order.specs.Through.{Every, FairCall, calls_of}
use Rattle.order.specs.Order.{SameAs}
use Rattle.order.proofs.Idle.{idle_owed, idle_round}
use Rattle.order.proofs.Order.{from_any_loop, agree}
use Rattle.order.proofs.Turns.{turns_add_up}
use Rattle.order.proofs.Written.{run_puts, one_by_one_fair, calls_fair, writes_all}
use Rattle.demands.specs.Calls.{Byte, numbers, set_up, opens, plain, pil}
use Rattle.demands.specs.Calls as page
use Rattle.demands.specs.Conditions.{devices_at, due}
use Rattle.demands.specs.Histories.{Step, area_left, frames_put, frames_taken, all_handed, hops_made, steps_refused}
use Rattle.demands.specs.Histories.{papers, all_calls, line_of, turns_of, as_steps, in_turn}
use Rattle.demands.specs.Demands.{Judged, hops_owed, AllEmpty, InAnyOrder, FreshInAnyOrder, Demand3}
use Rattle.demands.specs.Demands.{StartsJudged, Turns, TurnsAreSeen, Agreement}
use Rattle.demands.proofs.Away.{open_leaves, opened_judged, away_done}
use Rattle.demands.proofs.First.{demand_1, sets_up}
use Rattle.demands.proofs.Bridge.{to_loop}
use Rattle.demands.proofs.Rendered.{numbers_bytes, R, W, same_calls, Fair, line_is, area_is, good_is, puts_are}
use Rattle.demands.proofs.Rendered.{taken_are, handed_are, hops_are, refused_are, turns_are, turns_seen_lem}
use Rattle.demands.proofs.Rendered.{calls_seen_lem}
use Rattle.demands.proofs.Lined.{owed_is, devices_are, line_judged, line_good, line_area}

-- ---- idle lines

idle_links : (ss : List Device) → flat.links_of (line.idle {L = papers} ss) ≡ replicate (suc (length ss)) []
idle_links [] = refl
idle_links (s ∷ ss) = ap (λ (r : List (List ℕ)). [] ∷ r) (idle_links ss)

idle_states : (ss : List Device) → flat.states_of (line.idle {L = papers} ss) ≡ ss
idle_states [] = refl
idle_states (s ∷ ss) = ap (λ (r : List Device). s ∷ r) (idle_states ss)

pub idle_loop : (ss : List Device) →
    to_loop (line.idle ss) ≡ record { devices = ss; links = replicate (suc (length ss)) [] }
idle_loop ss = rw (idle_links ss, idle_states ss)

-- a line all of whose links are empty is idle
pub is_idle : (l : line.Loop papers) → ((j : ℕ) → get_or (flat.links_of l) j [] ≡ []) → l ≡ line.idle (flat.states_of l)
is_idle (line.tail q) h = ap (λ (r : List ℕ). line.tail r) (h 0)
is_idle (line.cell q s r) h = rw (h 0) (ap (λ (x : line.Loop papers). line.cell [] s x) (is_idle r (λ j. h (suc j))))

-- ---- in turn, by calls on the area

fair_all : (cs : List (line.Call papers)) → Every (FairCall (λ f. f < frames)) cs → Every Fair (as_steps cs)
fair_all [] u = tt
fair_all (line.put f ∷ cs) u = (lt-ltb f frames u.0, fair_all cs u.1)
fair_all (line.hop i ∷ cs) u = (refl, fair_all cs u.1)
fair_all (line.take ∷ cs) u = (refl, fair_all cs u.1)
fair_all (line.local i c ∷ cs) u = (refl, fair_all cs u.1)
fair_all (line.drain b ∷ cs) u = (refl, fair_all cs u.1)

-- ---- a history on a line's area that leaves all links empty

module _ (l : line.Loop papers) (good : SoundLoop (to_loop l)) (ss : List Step)
    (empty : AllEmpty (area_left (area_of (to_loop l)) ss)) where
  -- the line at the end, what happened, and the area
  abbrev end : line.Loop papers
  end = (line.run l (calls_of R ss)).0

  abbrev es : List (line.Event papers)
  es = (line.run l (calls_of R ss)).1

  abbrev pub left : List Device
  left = flat.states_of end

  abbrev x : List ℕ
  x = area_of (to_loop l)

  -- the line is idle
  idle_again : end ≡ line.idle left
  idle_again =
      is_idle end
      (λ j. sym (ap (λ (m : Loop). link m j)
      (ap loop_of (area_is l good ss) ∙ loop_back (to_loop end) (good_is l good ss))) ∙ empty j)

  pub ends : line.run l (calls_of R ss) ≡ (line.idle left, es)
  ends = ap (λ (m : line.Loop papers). (m, es)) idle_again

  -- the line's own history in turn, with the frames and the turns of this one
  abbrev ref : List (line.Call papers)
  ref = one_by_one l (told.puts es) (first (line.devices l) (told.turns es))

  same_as : SameAs l ref (line.idle left) es
      × (told.hops_made es ≡ owed (flat.links_of l) + length (told.puts es) * line.devices l)
  same_as = from_any_loop papers l left (calls_of R ss) es ends

  ref_fair : Every (FairCall (λ f. f < frames)) ref
  ref_fair =
      one_by_one_fair papers (λ f. f < frames) l (told.puts es) (first (line.devices l) (told.turns es))
      (run_puts papers (λ f. f < frames) l (calls_of R ss) (calls_fair R W ss))

  ref_calls : calls_of R (as_steps ref) ≡ ref
  ref_calls = writes_all R W ref ref_fair

  -- the page's history in turn is that one
  turns_same : ◌≡◌ {A = ℕ → List (told.Turn papers)} (λ i. turns_of x ss i) (λ i. told.turns es i)
  turns_same =
      ap (λ (m : line.Loop papers). λ (i : ℕ). told.turns (line.run m (all_calls ss)).1 i) (line_is l good)
      ∙ ap (λ (c : List (line.Call papers)). λ (i : ℕ). told.turns (line.run l c).1 i) (same_calls ss)

  in_turn_lem : in_turn x ss ≡ as_steps ref
  in_turn_lem =
      ap (λ (m : line.Loop papers). as_steps (one_by_one m (frames_put x ss) (first (count_in x) (turns_of x ss))))
      (line_is l good)
      ∙ ap (λ (fs : List ℕ). as_steps (one_by_one l fs (first (count_in x) (turns_of x ss)))) (puts_are l good ss)
      ∙ ap (λ (n : ℕ). as_steps (one_by_one l (told.puts es) (first n (turns_of x ss)))) (devices_are l good)
      ∙ ap (λ (T : ℕ → List (told.Turn papers)). as_steps (one_by_one l (told.puts es) (first (line.devices l) T)))
      turns_same

  -- what is seen of it
  abbrev rs : List Step
  rs = as_steps ref

  abbrev fs : List (line.Event papers)
  fs = same_as.0.events

  ref_run : line.run l (calls_of R rs) ≡ (line.idle left, fs)
  ref_run = rw ref_calls same_as.0.ran

  ref_events : (line.run l (calls_of R rs)).1 ≡ fs
  ref_events = ap (λ (p : line.Loop papers × List (line.Event papers)). p.1) ref_run

  none_refused : steps_refused x rs ≡ 0
  none_refused =
      refused_are l good rs (fair_all ref ref_fair)
      ∙ ap (λ (e : List (line.Event papers)). told.refusals e) ref_events
      ∙ same_as.0.accepted

  -- both histories, read off the line's events
  module _ {A : Type 0} (seen : List Step → A) (happened : List (line.Event papers) → A)
      (reads : (c : List Step) → seen c ≡ happened (line.run l (calls_of R c)).1) where
    alike : happened fs ≡ happened es → seen (in_turn x ss) ≡ seen ss
    alike e = ap seen in_turn_lem ∙ reads rs ∙ ap happened ref_events ∙ e ∙ sym (reads ss)

  made : hops_made x ss ≡ hops_owed x + length (frames_put x ss) * count_in x
  made = rw (hops_are l good ss, puts_are l good ss, devices_are l good, owed_is l good) same_as.1

  pub ordered : InAnyOrder x ss
  ordered =
      record {
        accepted = ap (λ (c : List Step). steps_refused x c) in_turn_lem ∙ none_refused;
        same_puts = alike (λ c. frames_put x c) (λ e. told.puts e) (puts_are l good) same_as.0.same_puts;
        same_turns = λ i. alike (λ c. turns_of x c i) (λ e. told.turns e i) (λ c. turns_are l good c i)
            (same_as.0.same_turns i);
        same_area =
            ap (λ (c : List Step). area_left x c) in_turn_lem
            ∙ area_is l good rs
            ∙ ap (λ (p : line.Loop papers × List (line.Event papers)). area_of (to_loop p.0)) ref_run
            ∙ sym (area_is l good ss
            ∙ ap (λ (p : line.Loop papers × List (line.Event papers)). area_of (to_loop p.0)) ends);
        same_taken = alike (λ c. frames_taken x c) (λ e. told.taken e) (taken_are l good) same_as.0.same_taken;
        same_handed = λ i. alike (λ c. all_handed x c i) (λ e. told.handed e i) (λ c. handed_are l good c i)
            (same_as.0.same_handed i);
        hops_made_lem = omega (arith, made);
      }

pub from_any_area : (a : List ℕ) (ss : List Step) → Judged a → AllEmpty (area_left a ss) → InAnyOrder a ss
from_any_area a ss j empty =
    rw (line_area a j) at (ordered (line_of a) (line_good a j) ss (rw (line_area a j) empty))

-- ---- sums

sum_same : (n : ℕ) {g h : ℕ → ℕ} → ((i : ℕ) → g i ≡ h i) → told.sum_over n g ≡ told.sum_over n h
sum_same zero e = refl
sum_same (suc n) e = rw (sum_same n e, e n)

-- ---- from a set-up

module _ (a : List ℕ) (items : List Byte) (set : due (set_up items) a ≡ 0) where
  abbrev n : ℕ
  n = devices_at (length a)

  abbrev pub ds : List Device
  ds = map power_on (items_of n (numbers items))

  many : length ds ≡ n
  many = length-map (items_of n (numbers items)) power_on ∙ length_parts _ n (numbers items)

  -- the loop is an idle line
  powered_idle : to_loop (line.idle ds) ≡ powered_on n (numbers items)
  powered_idle = idle_loop ds ∙ rw many

  pub fresh_good : SoundLoop (to_loop (line.idle ds))
  fresh_good =
      let s = sets_up a items set in
      rw powered_idle (set_up_sound most_devices n a (numbers items) (numbers_bytes items) s.fits s.allows)

  pub fresh_area : (pil (set_up items) a).area ≡ area_of (to_loop (line.idle ds))
  fresh_area = (sets_up a items set).leaves ∙ ap area_of (sym powered_idle)

  fresh_judged : Judged (pil (set_up items) a).area
  fresh_judged = rw fresh_area (line_judged (line.idle ds) fresh_good)

  fresh_ordered : (ss : List Step) → AllEmpty (area_left (area_of (to_loop (line.idle ds))) ss) →
      FreshInAnyOrder (area_of (to_loop (line.idle ds))) ss
  fresh_ordered ss empty =
      let y = area_of (to_loop (line.idle ds)) in
      let ts = first (count_in y) (turns_of y ss) in
      let o = ordered (line.idle ds) fresh_good ss empty in
      let owes = owed_is (line.idle ds) fresh_good ∙ idle_owed papers ds in
      record {
        in_any_order = o;
        right_round =
            ap (λ (m : line.Loop papers). as_steps (one_by_one m (frames_put y ss) ts)) (line_is (line.idle ds) fresh_good)
            ∙ ap (λ (c : List (line.Call papers)). as_steps c) (idle_round papers ds (frames_put y ss) ts);
        hops_made_lem = omega (arith, o.hops_made_lem, owes);
      }

-- ---- from an opening

opening_judged : (a : List ℕ) (s : List Byte) → due (opens s) a ≡ 0 → Judged (pil (opens s) a).area
opening_judged a s h =
    let z : (open_of a (numbers s)).answer ≡ 0 = demand_1.by_table (opens s) a ∙ h in
    record {
      bytes = rw (open_leaves a (numbers s) z) (opened_bytes (numbers s) (numbers_bytes s));
      sound = opened_judged a (numbers s) (numbers_bytes s) z;
    }

pub starts_judged : StartsJudged
starts_judged = record { set_up_lem = fresh_judged; opening = opening_judged }

pub demand_3 : Demand3
demand_3 =
    record {
      from_any_area = from_any_area;
      from_set_up = λ a items ss set. rw (fresh_area a items set) (fresh_ordered a items set ss);
      from_opening = λ a s ss opened. from_any_area (pil (opens s) a).area ss (opening_judged a s opened);
      put_away = λ a out lent j o l.
          ap (λ (r : After ℕ). page.told plain r) (away_done a (numbers out) (numbers lent) j.sound o l);
    }

-- ---- the turns are what is seen

seen : (l : line.Loop papers) (ss : List Step) → SoundLoop (to_loop l) → Turns (area_of (to_loop l)) ss
seen l ss good =
    record {
      all_seen = λ d i. turns_are l good ss i ∙ sym (turns_seen_lem l good ss d i);
      calls_seen_lem = λ i. ap (λ (t : List (told.Turn papers)). told.calls_in t) (turns_are l good ss i)
          ∙ sym (calls_seen_lem l good ss i);
      hops_add_up = rw (devices_are l good)
          (sum_same (line.devices l) (λ i. ap (λ (t : List (told.Turn papers)). told.hops_in t)
          (turns_are l good ss i))
          ∙ turns_add_up papers l _ (calls_of R ss) _ refl ∙ sym (hops_are l good ss));
    }

pub turns_are_seen : TurnsAreSeen
turns_are_seen a ss j = rw (line_area a j) at (seen (line_of a) ss (line_good a j))

-- ---- two histories with the same frames and turns are two of the line, which agree

module _ (l : line.Loop papers) (good : SoundLoop (to_loop l)) (ss rs : List Step)
    (p : AllEmpty (area_left (area_of (to_loop l)) ss)) (q : AllEmpty (area_left (area_of (to_loop l)) rs))
    (f : frames_put (area_of (to_loop l)) ss ≡ frames_put (area_of (to_loop l)) rs)
    (t : (i : ℕ) → turns_of (area_of (to_loop l)) ss i ≡ turns_of (area_of (to_loop l)) rs i) where
  abbrev y : List ℕ
  y = area_of (to_loop l)

  agreed : (area_left y ss ≡ area_left y rs) × (frames_taken y ss ≡ frames_taken y rs)
      × ((i : ℕ) → all_handed y ss i ≡ all_handed y rs i) × (hops_made y ss ≡ hops_made y rs)
  agreed =
      let u = ends l good ss p in
      let v = ends l good rs q in
      let g = agree papers l (left l good ss p) (left l good rs q) (calls_of R ss) (calls_of R rs) (es l good ss p)
      (es l good rs q) u v
      (sym (puts_are l good ss) ∙ f ∙ puts_are l good rs)
      (λ i. sym (turns_are l good ss i) ∙ t i ∙ turns_are l good rs i) in (
        area_is l good ss
            ∙ ap (λ (r : line.Loop papers × List (line.Event papers)). area_of (to_loop r.0)) u
            ∙ ap (λ (r : List Device). area_of (to_loop (line.idle r))) g.0
            ∙ sym
            (area_is l good rs ∙ ap (λ (r : line.Loop papers × List (line.Event papers)). area_of (to_loop r.0)) v),
        taken_are l good ss ∙ g.1 ∙ sym (taken_are l good rs),
        λ i. handed_are l good ss i ∙ g.2 i ∙ sym (handed_are l good rs i),
        hops_are l good ss ∙ g.3 ∙ sym (hops_are l good rs),
      )

pub agreement : Agreement
agreement a ss rs j = rw (line_area a j) at (agreed (line_of a) (line_good a j) ss rs)
