-- The tests of each call on a loop, as the conditions of the table that concern it.
use Prim.Native.Nat.{ℕ, zero, suc}
use mathlib.Core.Path.{◌≡◌, refl, sym, ◌∙◌}
use mathlib.Core.Bool.{Bool, true, false, not, cond}
use mathlib.Core.List.{List}
use native.Mathlib.Omega.{arith}
use lib.ListN.{length, drop, length-map}
use lib.Dec.{eqb, ltb, leb}
use borrow.Author.Tests.{eqb-true, eqb-false}
use Rattle.std.specs.Prelude.{Option, Some, None}
use Rattle.frame.specs.Messages.{frames}
use Rattle.device.specs.Choose.{choose}
use Rattle.device.specs.Device.{is_choice, has, has_further}
use Rattle.device.specs.Change.{loading}
use Rattle.record_local.specs.Local.{refused, accepted, loads, sets_status, wishes, sets_poll_status}
use Rattle.device.specs.declared.Device.{Device}
use Rattle.record_local.specs.Local.{Called}
use Rattle.device.specs.declared.Handed.{Handed}
use Rattle.device.specs.declared.Handed.TheVariants as handed
use Rattle.record.specs.Record.{record_size, device_of}
use Rattle.area.specs.Sizes.{depth, header_size}
use Rattle.area.specs.Loop.{Loop, count_in, records_in, size, loop_of, device, link}
use Rattle.area.specs.Lookup.{oldest_of, room_of, place_of, set_device, add}
use Rattle.area.proofs.Parts.{length_parts}
use Rattle.calls.specs.Outcome.{Outcome, refuse, done}
use Rattle.calls.specs.Calls.{at_place, of_oldest, into_room, refusal, hop_answer, sent_by, put_in, taken_from, take_in}
use Rattle.calls.specs.Calls.{passes, passes_on, hop_from, hop_in, called_in, called_at, local_in, load_in}
use Rattle.calls.specs.Drain.{on_place, handed_to, reported_by, turned, highest, drain_from}
use Rattle.calls.specs.declared.HopAnswer.{HopAnswer}
use Rattle.calls.specs.declared.TakeAnswer.{TakeAnswer}
use Rattle.calls.specs.declared.DrainAnswer.{DrainAnswer}
use Rattle.demands.proofs.Refusals.{Told, no, yes, leb_turned, turned_lt, told_cond, none_is, some_is}

-- byte 0 is how many devices there are
pub size_is : (a : List ℕ) → size (loop_of a) ≡ count_in a
unfolding loop_of
size_is a = length-map (records_in a) device_of ∙ length_parts record_size (count_in a) (drop header_size a)

-- a lookup that finds nothing refuses, with the number of the table's row
into_told : {A : Type 0} {get : A → ℕ} (o : Outcome A) (fs : List ℕ) → Told A get o 0 →
    Told A get (into_room o (room_of fs)) (cond (leb depth (length fs)) 6 0)
into_told {A} {get} o fs t = rw (turned_lt (length fs) depth 6 0) (go (ltb (length fs) depth))
  where
    go : (b : Bool) → Told A get (into_room o (cond b (Some (length fs)) None)) (cond b 0 6)
    go true = t
    go false = no 6 (λ z. omega arith)

at_told : {A : Type 0} {get : A → ℕ} (call : ℕ → Outcome A) (l : Loop) (i k : ℕ) → Told A get (call i) k →
    Told A get (at_place call (place_of l i)) (cond (leb (size l) i) 3 k)
at_told {A} {get} call l i k t = rw (turned_lt i (size l) 3 k) (go (ltb i (size l)))
  where
    go : (b : Bool) → Told A get (at_place call (cond b (Some i) None)) (cond b k 3)
    go true = t
    go false = no 3 (λ z. omega arith)

pub put_told : (f : ℕ) (l : Loop) →
    Told ℕ refusal (put_in f l) (cond (leb frames f) 4 (cond (leb depth (length (link l 0))) 6 0))
unfolding put_in
put_told f l =
    rw (turned_lt f frames 4 (cond (leb depth (length (link l 0))) 6 0))
    (told_cond (ltb f frames) _ _ _ _ (into_told (done 0 (add 0 f l)) (link l 0) (yes 0 _ refl))
    (no 4 (λ z. omega arith)))

abbrev take_refusal : TakeAnswer → ℕ
take_refusal r = r.refusal

pub take_told : (l : Loop) → Told TakeAnswer take_refusal (take_in l) (cond (eqb (length (link l (size l))) 0) 5 0)
unfolding take_in
take_told l = go (oldest_of (link l (size l))) refl
  where
    go : (o : Option ℕ) → oldest_of (link l (size l)) ≡ o →
        Told TakeAnswer take_refusal (of_oldest (taken_from l) o) (cond (eqb (length (link l (size l))) 0) 5 0)
    go None e = rw (none_is (link l (size l)) 0 e) (no 5 (λ z. omega arith))
    go (Some f) e = rw (some_is (link l (size l)) f 0 e) (yes _ _ refl)

abbrev hop_refusal : HopAnswer → ℕ
hop_refusal r = r.refusal

pub hop_done : (f : ℕ) (h : Handed) → (hop_answer f h).refusal ≡ 0
hop_done f handed.Nothing = refl
hop_done f (handed.Byte b e) = refl
hop_done f handed.Clear = refl
hop_done f handed.Trigger = refl

pub hop_told : (i : ℕ) (l : Loop) → Told HopAnswer hop_refusal (hop_in i l)
    (cond (leb (size l) i) 3 (cond (eqb (length (link l i)) 0) 5 (cond (leb depth (length (link l (suc i)))) 6 0)))
unfolding hop_in
hop_told i l = at_told (hop_from l) l i _ (go (oldest_of (link l i)) refl)
  where
    go : (o : Option ℕ) → oldest_of (link l i) ≡ o →
        Told HopAnswer hop_refusal (of_oldest (passes_on i l) o)
        (cond (eqb (length (link l i)) 0) 5 (cond (leb depth (length (link l (suc i)))) 6 0))
    go None e = rw (none_is (link l i) (cond (leb depth (length (link l (suc i)))) 6 0) e)
        (no 5 (λ z. omega arith))
    go (Some f) e =
        rw (some_is (link l i) f (cond (leb depth (length (link l (suc i)))) 6 0) e)
        (into_told (passes i f l) (link l (suc i))
        (yes _ _ (hop_done (sent_by i f l).frame (sent_by i f l).handed)))

-- ---- local calls

called_told : (i : ℕ) (l : Loop) (c : Called) → Told ℕ refusal (called_in i l c) c.refusal
called_told i l c = go (eqb c.refusal 0) refl
  where
    go : (t : Bool) → eqb c.refusal 0 ≡ t →
        Told ℕ refusal (cond t (done 0 (set_device i c.device l)) (refuse c.refusal)) c.refusal
    go true e = rw (eqb-true c.refusal 0 e) (yes 0 _ refl)
    go false e = no c.refusal (eqb-false c.refusal 0 e)

pub local_told : (call : Device → Called) (i : ℕ) (l : Loop) →
    Told ℕ refusal (local_in call i l) (cond (leb (size l) i) 3 (call (device l i)).refusal)
unfolding local_in
local_told call i l = at_told (called_at call l) l i _ (called_told i l (call (device l i)))

chosen_refusal : (b : Bool) (x y : Called) → (choose b x y).refusal ≡ cond (not b) y.refusal x.refusal
unfolding choose
chosen_refusal true x y = refl
chosen_refusal false x y = refl

passed_refusal : (b : Bool) (x y : Called) → (choose b x y).refusal ≡ cond b x.refusal y.refusal
unfolding choose
passed_refusal true x y = refl
passed_refusal false x y = refl

module _ (d : Device) where
  abbrev load_refusal : List ℕ → ℕ
  load_refusal bs = cond (not (has d 2)) 7 (cond (ltb 32 (length bs)) 8 (cond (eqb d.talker 2) 9 0))

  load_refusal_lem : (bs : List ℕ) (e : ℕ) → (loads d bs e).refusal ≡ cond (is_choice e) (load_refusal bs) 2
  unfolding loads
  load_refusal_lem bs e =
      passed_refusal (is_choice e) _ _
      ∙ rw (
        chosen_refusal (has d 2)
            (choose (ltb 32 (length bs)) (refused 8 d)
            (choose (eqb d.talker 2) (refused 9 d) (accepted (loading d bs e)))) (refused 7 d),
        passed_refusal (ltb 32 (length bs)) (refused 8 d)
            (choose (eqb d.talker 2) (refused 9 d) (accepted (loading d bs e))),
        passed_refusal (eqb d.talker 2)
            (refused 9 d) (accepted (loading d bs e)),
      )

  -- a load that is not refused has a choice
  pub load_choice : (bs : List ℕ) (e : ℕ) → (loads d bs e).refusal ≡ 0 → is_choice e ≡ true
  load_choice bs e z = go (is_choice e) (sym (load_refusal_lem bs e) ∙ z)
    where
      go : (t : Bool) → cond t (load_refusal bs) 2 ≡ 0 → t ≡ true
      go true q = refl
      go false q = absurd (omega arith)

  pub status_refusal : (s : ℕ) → (sets_status d s).refusal ≡ cond (not (has d 4)) 7 0
  unfolding sets_status
  status_refusal s = chosen_refusal (has d 4) _ _

  pub wish_refusal : (w : ℕ) → (wishes d w).refusal ≡ cond (not (has d 128)) 7 0
  unfolding wishes
  wish_refusal w = chosen_refusal (has d 128) _ _

  pub poll_status_refusal : (s : ℕ) → (sets_poll_status d s).refusal ≡ cond (not (has_further d 1)) 7 0
  unfolding sets_poll_status
  poll_status_refusal s = chosen_refusal (has_further d 1) _ _

-- load: the choice before the device's number
pub load_told : (i : ℕ) (bs : List ℕ) (e : ℕ) (l : Loop) →
    Told ℕ refusal (load_in i bs e l) (cond (ltb 1 e) 2 (cond (leb (size l) i) 3 (load_refusal (device l i) bs)))
unfolding load_in
load_told i bs e l = rw (leb_turned 1 e) (go (ltb 1 e) (leb_turned 1 e))
  where
    go : (t : Bool) → is_choice e ≡ not t →
        Told ℕ refusal (cond (not t) (local_in (λ d. loads d bs e) i l) (refuse 2))
        (cond t 2 (cond (leb (size l) i) 3 (load_refusal (device l i) bs)))
    go true q = no 2 (λ z. omega arith)
    go false q = rw (load_refusal_lem (device l i) bs e, q) at (local_told (λ d. loads d bs e) i l)

-- so one without a choice is refused by every loop
pub load_untold : (i : ℕ) (bs : List ℕ) (e : ℕ) (l : Loop) → is_choice e ≡ false →
    Told ℕ refusal (local_in (λ d. loads d bs e) i l) (cond (leb (size l) i) 3 2)
load_untold i bs e l q = rw (load_refusal_lem (device l i) bs e, q) at (local_told (λ d. loads d bs e) i l)

-- ---- the drain refuses nothing

abbrev drain_refusal : DrainAnswer → ℕ
drain_refusal r = r.refusal

-- an outcome that refuses nothing
abbrev Never : Outcome DrainAnswer → Type 0
Never o = Told DrainAnswer drain_refusal o 0

turned_told : (i h : ℕ) (next : Loop → Outcome DrainAnswer) (l : Loop) (o : Outcome HopAnswer) →
    ((m : Loop) → Never (next m)) → Never (turned i h next l o)
turned_told i h next l (refuse k) n = yes _ _ refl
turned_told i h next l (done r m) n = go (eqb r.handed 1) (eqb r.event 0)
  where
    go : (t u : Bool) → Never (cond t (handed_to i (suc h) r m) (cond u (next m) (reported_by i (suc h) r m)))
    go true u = yes _ _ refl
    go false true = n m
    go false false = yes _ _ refl

either_told : (x : Outcome DrainAnswer) (y : ℕ → Outcome DrainAnswer) (p : Option ℕ) → Never x →
    ((i : ℕ) → Never (y i)) → Never (on_place x y p)
either_told x y None u v = u
either_told x y (Some i) u v = v i

pub drain_told : (b h : ℕ) (l : Loop) → Never (drain_from b h l)
unfolding drain_from
drain_told zero h l = either_told _ _ (highest (size l) l) (yes _ _ refl) (λ i. yes _ _ refl)
drain_told (suc b) h l =
    either_told _ _ (highest (size l) l) (yes _ _ refl)
    (λ i. turned_told i h (drain_from b (suc h)) l (hop_in i l) (λ m. drain_told b (suc h) m))
