-- Hops owed: an area's are those of the line in it, so that the line's laws are the area's. One call is a history of
-- one call; and where an area is refused, nothing changes.
use Prim.Native.Nat.{ℕ, ◌+◌, ◌*◌}
use mathlib.Core.Path.{◌≡◌, refl, sym, ap, ◌∙◌}
use mathlib.Core.Bool.{Bool, true, false, not, cond, ◌||◌, true≢false}
use mathlib.Core.Option
use mathlib.Core.Option.{Option, none, some}
use mathlib.Core.List.{List, [], ◌∷◌, map, append-nil}
use native.Mathlib.Omega.{arith}
use lib.ListN.{length}
use lib.Dec.{eqb}
use borrow.Author.Tests.{eqb-true, eqb-false}
use Rattle.record.specs.Fits.{Bytes}
use Rattle.area.specs.Sizes.{area_size}
use Rattle.area.specs.Link.{frames_of}
use Rattle.area.specs.Loop.{Loop, count_in, loop_of, area_of, shaped, sound, judge_of, judge_with, link, SoundLoop}
use Rattle.area.proofs.Laws.{loop_sound}
use Rattle.calls.proofs.Owing.{loop_owes}
use Rattle.saved.specs.Calls.{open_of}
use Rattle.saved.proofs.Laws.{opened_links}
use Rattle.order.specs.Line as line
use Rattle.order.specs.Flat as flat
use Rattle.order.specs.History as told
use Rattle.order.specs.Owed as order
use Rattle.order.specs.Owed.{owed}
use Rattle.order.specs.Through.{calls_of}
use Rattle.order.proofs.Owed as order-proofs
use Rattle.order.proofs.Owed.{owed_law}
use Rattle.order.proofs.Idle.{idle_owed}
use Rattle.demands.specs.Calls.{numbers, Action, put, hop, take, local, drain, on_area, opens, Answer}
use Rattle.demands.specs.Calls.{acts, refusal_in}
use Rattle.demands.specs.Conditions.{devices_at, bad_output, no_choice}
use Rattle.demands.specs.Histories.{Step, call, put_by, hops_by, area_left, frames_put, hops_made, papers}
use Rattle.demands.specs.Histories.{calls, line_of}
use Rattle.demands.specs.Demands.{Judged, hops_owed, OwedAfterHop, OwedAfterDrain, OwedAfterPut, OwedAfterTake}
use Rattle.demands.specs.Demands.{OwedAfterLocalCall, OwedAfterRefusal, OwedAfterSetUp, OwedAfterOpening}
use Rattle.demands.specs.Demands.{OwedAtMost, OwedOver, HopsAtMost, Progress, hop_accepted}
use Rattle.demands.specs.Demands.{take_accepted, NeverStuck}
use Rattle.demands.proofs.Lengths.{shape_is}
use Rattle.demands.proofs.Tests.{size_is}
use Rattle.demands.proofs.First.{demand_1}
use Rattle.demands.proofs.Away.{whole}
use Rattle.demands.proofs.Bridge.{to_loop}
use Rattle.demands.proofs.Settled.{on_loop, fair, follows, acts_on}
use Rattle.demands.proofs.Rendered.{R, area_is, good_is, puts_are, hops_are}
use Rattle.demands.proofs.Lined.{owed_is, devices_are, loop_is, line_good, line_area}
use Rattle.demands.proofs.Third.{ds, fresh_good, fresh_area}

-- ---- a history

module _ (l : line.Loop papers) (good : SoundLoop (to_loop l)) (ss : List Step) where
  line_over : hops_made (area_of (to_loop l)) ss + hops_owed (area_left (area_of (to_loop l)) ss)
      ≡ hops_owed (area_of (to_loop l)) + length (frames_put (area_of (to_loop l)) ss) * count_in (area_of (to_loop l))
  line_over =
      let end = (line.run l (calls_of R ss)).0 in
      let e : hops_owed (area_left (area_of (to_loop l)) ss) ≡ owed (flat.links_of end) =
      ap hops_owed (area_is l good ss) ∙ owed_is end (good_is l good ss) in
      rw (hops_are l good ss, e, owed_is l good, puts_are l good ss, devices_are l good)
      (owed_law papers l end (calls_of R ss) (line.run l (calls_of R ss)).1 refl)

pub owed_over : OwedOver
owed_over a ss j = omega (arith, rw (line_area a j) at (line_over (line_of a) (line_good a j) ss))

pub owed_at_most : OwedAtMost
owed_at_most a j = omega (arith, rw (size_is a) at (loop_owes (loop_of a) (loop_sound a j.bytes j.sound)))

pub hops_at_most : HopsAtMost
hops_at_most a ss j quiet =
    let e : hops_made a ss + hops_owed (area_left a ss) ≡ hops_owed a + 0 * count_in a = rw quiet at (owed_over a ss j) in
    omega (arith, e, owed_at_most a j)

-- ---- one call

-- a history of one
step : (c : Action) (a : List ℕ) → Judged a →
    hops_by c (acts c a).answer + hops_owed (acts c a).area
    ≡ hops_owed a + length (put_by c (acts c a).answer) * count_in a
step c a j =
    let e : hops_by c (acts c a).answer + 0 + hops_owed (acts c a).area
    ≡ hops_owed a + length (put_by c (acts c a).answer) * count_in a =
    rw (append-nil (put_by c (acts c a).answer)) at (owed_over a (call c ∷ []) j) in
    omega (arith, e)

pub owed_after_refusal : OwedAfterRefusal
owed_after_refusal c a h = ap hops_owed (demand_1.changes_nothing c a (λ z. h (demand_1.by_table c a ∙ z))).1

-- an area with no condition of the table's first two rows has no refusal; each of them may have another condition
judge_is : (a : List ℕ) (one two : Bool) (k : ℕ) →
    cond (one || (eqb (devices_at (length a)) 0 || not (eqb (length a) (area_size (count_in a))))) 1
    (cond (two || not (sound a)) 2 k) ≡ 0 → judge_of a ≡ 0
unfolding judge_with
judge_is a one two k h = go one (shaped a) two (sound a) (rw (shape_is a) at h)
  where
    go : (o s w t : Bool) → ◌≡◌ {A = ℕ} (cond (o || not s) 1 (cond (w || not t) 2 k)) 0 →
        ◌≡◌ {A = ℕ} (cond s (cond t 0 2) 1) 0
    go true s w t e = absurd (omega (arith, e))
    go false true true t e = absurd (omega (arith, e))
    go false true false true e = refl
    go false true false false e = absurd (omega (arith, e))
    go false false w t e = absurd (omega (arith, e))

module _ (c : Action) (a : List ℕ) (bytes : Bytes a) where
  -- so the area of an accepted call has none
  judged : refusal_in (acts c a).answer ≡ 0 → Judged a
  judged h =
      record {
        bytes = bytes;
        sound = judge_is a (bad_output c a) (no_choice c) _ (sym (demand_1.by_table (on_area c) a) ∙ h);
      }

  -- a call was accepted, or it was refused
  either : {P : Type 0} → (Judged a → P) → ((refusal_in (acts c a).answer ≡ 0 → ⊥) → P) → P
  either {P} was not_so = go (eqb (refusal_in (acts c a).answer) 0) refl
    where
      go : (t : Bool) → eqb (refusal_in (acts c a).answer) 0 ≡ t → P
      go true e = was (judged (eqb-true _ _ e))
      go false e = not_so (eqb-false (refusal_in (acts c a).answer) 0 e)

  -- one that makes no hop and puts no frame
  quiet : hops_by c (acts c a).answer ≡ 0 → put_by c (acts c a).answer ≡ [] → hops_owed (acts c a).area ≡ hops_owed a
  quiet still none_put = either
      (λ j. let e : 0 + hops_owed (acts c a).area ≡ hops_owed a + 0 * count_in a = rw (still, none_put) at (step c a j) in
      omega (arith, e))
      (owed_after_refusal (on_area c) a)

pub owed_after_hop : OwedAfterHop
owed_after_hop i a bytes h =
    let e : 1 + hops_owed (acts (hop i) a).area ≡ hops_owed a + 0 * count_in a =
    rw h at (step (hop i) a (judged (hop i) a bytes h)) in
    omega (arith, e)

pub owed_after_put : OwedAfterPut
owed_after_put f a bytes h =
    let e : 0 + hops_owed (acts (put f) a).area ≡ hops_owed a + 1 * count_in a =
    rw h at (step (put f) a (judged (put f) a bytes h)) in
    omega (arith, e)

pub owed_after_drain : OwedAfterDrain
owed_after_drain b a bytes = either (drain b) a bytes
    (λ j. omega (arith, step (drain b) a j))
    (λ h.
    let n = demand_1.changes_nothing (on_area (drain b)) a (λ z. h (demand_1.by_table (on_area (drain b)) a ∙ z)) in
    let none_made = ap (λ (r : Answer). hops_by (drain b) r) n.0 in
    omega (arith, none_made, ap hops_owed n.1))

pub owed_after_take : OwedAfterTake
owed_after_take a bytes = quiet take a bytes refl refl

pub owed_after_local_call : OwedAfterLocalCall
owed_after_local_call c i a bytes = quiet (local i c) a bytes refl refl

-- ---- some hop or the take is accepted: the line's is

not_refused : (k : ℕ) → ◌≡◌ {A = ℕ} (cond (eqb k 0) 0 1) 0 → k ≡ 0
not_refused k h = go (eqb k 0) refl h
  where
    go : (t : Bool) → eqb k 0 ≡ t → ◌≡◌ {A = ℕ} (cond t 0 1) 0 → k ≡ 0
    go true e z = eqb-true _ _ e
    go false e z = absurd (omega (arith, z))

module _ (l : line.Loop papers) (good : SoundLoop (to_loop l)) where
  accepted : (c : Action) → fair c ≡ true → told.refusals (line.run l (calls c)).1 ≡ 0 →
      refusal_in (acts c (area_of (to_loop l))).answer ≡ 0
  accepted c f h =
      rw (acts_on (to_loop l) good c).1
      (not_refused (refusal_in (on_loop c (to_loop l)).1) ((rw f at (follows c l).reads.refused) ∙ h))

  -- what a call of the line that is accepted comes to
  no_refusal : {A : Type 0} (event : A → line.Event papers) (o : Option (line.Loop papers × A)) →
      ((x : A) → told.refusal_by (event x) ≡ 0) → line.accepts o ≡ true →
      told.refusals (line.firstly (line.reply l (Option.map (λ p. (p.0, event p.1)) o)).1
      ((line.reply l (Option.map (λ p. (p.0, event p.1)) o)).0, [])).1 ≡ 0
  no_refusal event none z e = absurd (true≢false (sym e))
  no_refusal event (some p) z e = omega (arith, z p.1)

  moves : order.Progress l → Progress (area_of (to_loop l))
  moves (order.hop_accepted i e) =
      hop_accepted i (accepted (hop i) refl (no_refusal (λ h. line.hopped i h) (line.hop_at l i) (λ x. refl) e))
  moves (order.take_accepted e) =
      take_accepted (accepted take refl (no_refusal (λ f. line.was_taken f) (line.take_out l) (λ x. refl) e))

pub never_stuck : NeverStuck
never_stuck a i j h =
    rw (line_area a j) at
    (moves (line_of a) (line_good a j)
    (order-proofs.never_stuck papers (line_of a) i
    (λ e. h (sym (ap (λ (m : Loop). link m i) (loop_is a j)) ∙ e))))

-- ---- a set-up leaves an idle line

pub owed_after_set_up : OwedAfterSetUp
owed_after_set_up items a set =
    ap hops_owed (fresh_area a items set)
    ∙ owed_is (line.idle (ds a items set)) (fresh_good a items set)
    ∙ idle_owed papers (ds a items set)

-- ---- and an opening what the save holds: they are read off the links

pub owed_after_opening : OwedAfterOpening
unfolding loop_of
owed_after_opening s a h =
    let z : (open_of a (numbers s)).answer ≡ 0 = demand_1.by_table (opens s) a ∙ h in
    ap (λ (ls : List (List ℕ)). owed (map frames_of ls))
    (opened_links (open_of a (numbers s)).area a (numbers s) (whole z refl))
