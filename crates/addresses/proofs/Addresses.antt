-- The theorem: what AAU, AAD, TAD and all other frames do to one device, carried along the line of devices.
use Prim.Native.Nat.{ℕ, zero, suc, ◌+◌, ◌*◌, ◌≤◌, ◌<◌}
use mathlib.Core.Path.{◌≡◌, refl, sym, ap, ◌∙◌}
use mathlib.Core.Bool.{Bool, true, false, cond}
use mathlib.Core.List.{List, [], ◌∷◌, ◌++◌}
use native.Mathlib.Omega.{arith}
use lib.Dec.{eqb}
use lib.ListN.{length, replicate, length-map, length-replicate}
use borrow.Author.Tests.{eqb-true, eqb-false}
use Rattle.frame.specs.declared.Kind.TheVariants.{Tad, Aau, Aad}
use Rattle.frame.specs.Messages.{frames, kind_at}
use Rattle.device.specs.Device.{no_address, idle, addressed, talks}
use Rattle.device.specs.Take.{takes}
use Rattle.device.specs.Sentences.{Of}
use Rattle.device.specs.declared.Device.{Device}
use Rattle.device.proofs.Idle.{idle_stays}
use Rattle.area.specs.Loop.{count_in}
use Rattle.order.specs.Line as line
use Rattle.order.specs.History as told
use Rattle.order.specs.Through.{Every}
use Rattle.order.proofs.Idle.{Empty}
use Rattle.order.proofs.Streams.{same_devices}
use Rattle.walk.specs.Walk.{told_size}
use Rattle.demands.specs.Calls.{Byte, numbers, put, take, Answer, acts, refusal_in}
use Rattle.demands.specs.Histories.{Step, call, history, if, put_by, of_call, each, area_left, frames_put, frames_taken}
use Rattle.demands.specs.Histories.{steps_refused, papers, line_of, turns_of}
use Rattle.demands.specs.Demands.{Judged, AllEmpty, hops_from, sent_round}
use Rattle.demands.proofs.Flowing.{line_count, line_empty, left_judged, flows}
use Rattle.demands.proofs.Third.{turns_are_seen}
use Rattle.demands.proofs.Witness.{plain_engine}
use Rattle.teeth.specs.Example.{zero as byte-zero}
use Rattle.addresses.specs.Addresses.{aau, aad, tad, No, RoundAlone, Whole, Rounds, AauGone, EachDevice, AllAble}
use Rattle.addresses.specs.Addresses.{InRow, OneTalker, TadGone, Conditions, Lasts, Promised, NoTwoMeters}
use Rattle.addresses.proofs.Lines.{States, Calm, empty_links, flows_long, Keeps, flows_keep, Passes, flows_pass}
use Rattle.addresses.proofs.Lines.{Leaves, lately, flows_lately}
use Rattle.addresses.proofs.Areas.{device_good, to_states, of_states}
use Rattle.addresses.proofs.Taken.{aau_code, Same, stays, aau_leaves, aad_gives, tad_goes_on, tad_idle}
use Rattle.addresses.proofs.Taken.{tad_talks, Able, simple, able_next, aau_from, aad_from, tad_from}
use Rattle.addresses.proofs.Taken.{local_leaves, local_able}

-- ---- what a device is, by its number, before and after each of the three frames

abbrev Fit : ℕ → Device → Type 0
Fit i d = Able d

-- unconfigured
record Unset (i : ℕ) (d : Device) : Type 0 where
  able : Able d
  unset : d.configured ≡ 0

-- and there is an address left for it
record Ready (k i : ℕ) (d : Device) : Type 0 where
  unset : Unset i d
  room : k + i < no_address

record Set (k i : ℕ) (d : Device) : Type 0 where
  able : Able d
  address : d.address ≡ k + i
  set : d.configured ≡ 1

-- idle, or at t
record Named (k t i : ℕ) (d : Device) : Type 0 where
  set : Set k i d
  named : (d.talker ≡ idle → ⊥) → d.address ≡ t

-- and the talker if it is at t and can talk
record Spoken (k t i : ℕ) (d : Device) : Type 0 where
  named : Named k t i d
  talker : d.address ≡ t → talks d ≡ true → d.talker ≡ addressed

-- ---- local calls

fit_calm : Calm papers Fit
fit_calm i d e c h p = local_able c d e h p

unset_calm : Calm papers Unset
unset_calm i d e c h p =
    record { able = local_able c d e h p.able; unset = (local_leaves c d e h).place.configured ∙ p.unset }

ready_calm : (k : ℕ) → Calm papers (Ready k)
ready_calm k i d e c h p = record { unset = unset_calm i d e c h p.unset; room = p.room }

set_same : (k i : ℕ) (d e : Device) → Same d e → Able e → Set k i d → Set k i e
set_same k i d e s a p = record { able = a; address = s.address ∙ p.address; set = s.configured ∙ p.set }

set_calm : (k : ℕ) → Calm papers (Set k)
set_calm k i d e c h p = set_same k i d e (local_leaves c d e h).place (local_able c d e h p.able) p

named_calm : (k t : ℕ) → Calm papers (Named k t)
named_calm k t i d e c h p =
    let u = local_leaves c d e h in
    record {
      set = set_calm k i d e c h p.set;
      named = λ n. u.place.address ∙ p.named (λ z. n (u.talker ∙ z));
    }

spoken_calm : (k t : ℕ) → Calm papers (Spoken k t)
spoken_calm k t i d e c h p =
    let u = local_leaves c d e h in
    record {
      named = named_calm k t i d e c h p.named;
      talker = λ a b. u.talker ∙ p.talker (sym u.place.address ∙ a) (rw u.place.abilities at b);
    }

-- ---- AAU

-- no frame but AAD configures a device, and none of these becomes one
unset_keeps : Keeps papers (λ f. Of Aad f → ⊥) Unset
unset_keeps =
    record {
      calm = unset_calm;
      next_keeps = next;
      send_keeps = λ i d f n p e. n (aad_from d p.able f e);
    }
  where
    next : (i : ℕ) (d : Device) (f : ℕ) → (Of Aad f → ⊥) → Unset i d → Unset i (takes d f).device
    next i d f n p = go (eqb (kind_at f) 21) refl
      where
        go : (b : Bool) → eqb (kind_at f) 21 ≡ b → Unset i (takes d f).device
        go true e =
            let z : f ≡ aau = aau_code f (eqb-true _ _ e) in
            let a = p.able in
            rw z (record { able = able_next d a aau; unset = (aau_leaves d (simple d a) a.able).0 })
        go false e =
            record {
              able = able_next d p.able f;
              unset = (stays d (simple d p.able) f (eqb-false _ _ e) (λ z. absurd (n z))).configured ∙ p.unset;
            }

aau_leaves_all : Leaves papers aau (λ f. Of Aad f → ⊥) Fit Unset
aau_leaves_all =
    record {
      calm = fit_calm;
      next_keeps = λ i d f p. able_next d p f;
      next_is = λ i d p. record { able = able_next d p aau; unset = (aau_leaves d (simple d p) p.able).0 };
      send_is = λ i d p. (aau_leaves d (simple d p) p.able).1;
      keeps = unset_keeps;
    }

-- ---- AAD

aad_passes : (k : ℕ) → Passes papers (λ i. aad (k + i)) (Ready k) (Set k)
aad_passes k =
    record {
      before = ready_calm k;
      after = set_calm k;
      next_is = λ i d p. let u = gives i d p in
          record { able = able_next d p.unset.able (aad (k + i)); address = u.0; set = u.1 };
      send_is = λ i d p. omega (arith, (gives i d p).2);
    }
  where
    gives : (i : ℕ) (d : Device) → Ready k i d →
        ((takes d (aad (k + i))).device.address ≡ k + i) × ((takes d (aad (k + i))).device.configured ≡ 1) ×
        ((takes d (aad (k + i))).frame ≡ aad (k + i) + 1)
    gives i d p =
        let a = p.unset.able in aad_gives d (simple d a) (k + i) p.room a.able p.unset.unset

-- ---- every frame but AAU

set_keeps : (k : ℕ) → Keeps papers (λ f. Of Aau f → ⊥) (Set k)
set_keeps k =
    record {
      calm = set_calm k;
      next_keeps = λ i d f n p.
          let a = p.able in
          set_same k i d (takes d f).device (stays d (simple d a) f n (λ e. p.set)) (able_next d a f) p;
      send_keeps = λ i d f n p e. n (aau_from d p.able f e);
    }

-- ---- TAD

tad_passes : (k t : ℕ) → t < no_address → Passes papers (λ i. tad t) (Set k) (Spoken k t)
tad_passes k t b =
    record {
      before = set_calm k;
      after = spoken_calm k t;
      next_is = spoken;
      send_is = λ i d p. tad_goes_on d (simple d p.able) t b;
    }
  where
    no_aau : Of Aau (tad t) → ⊥
    no_aau e = omega (arith, aau_code (tad t) e)

    named : (i : ℕ) (d : Device) → Set k i d → ((takes d (tad t)).device.talker ≡ idle → ⊥) → d.address ≡ t
    named i d p n = go (eqb d.address t) refl
      where
        go : (x : Bool) → eqb d.address t ≡ x → d.address ≡ t
        go true e = eqb-true _ _ e
        go false e = absurd (n (tad_idle d (simple d p.able) t b (eqb-false _ _ e)))

    spoken : (i : ℕ) (d : Device) → Set k i d → Spoken k t i (takes d (tad t)).device
    spoken i d p =
        let s = stays d (simple d p.able) (tad t) no_aau (λ e. p.set) in
        record {
          named =
              record {
                set = set_same k i d (takes d (tad t)).device s (able_next d p.able (tad t)) p;
                named = λ n. s.address ∙ named i d p n;
              };
          talker = λ a u. tad_talks d (simple d p.able) t b (sym s.address ∙ a) (rw s.abilities at u);
        }

-- ---- and every frame but AAU and TAD

record Neither (f : ℕ) : Type 0 where
  no_aau : Of Aau f → ⊥
  no_tad : Of Tad f → ⊥

named_keeps : (k t : ℕ) → Keeps papers Neither (Named k t)
named_keeps k t =
    record {
      calm = named_calm k t;
      next_keeps = next;
      send_keeps = λ i d f n p.
          let a = p.set.able in
          record { no_aau = λ e. n.no_aau (aau_from d a f e); no_tad = λ e. n.no_tad (tad_from d a f e) };
    }
  where
    next : (i : ℕ) (d : Device) (f : ℕ) → Neither f → Named k t i d → Named k t i (takes d f).device
    next i d f n p =
        let a = p.set.able in
        record {
          set = (set_keeps k).next_keeps i d f n.no_aau p.set;
          named = λ u. (stays d (simple d a) f n.no_aau (λ e. p.set.set)).address
              ∙ p.named (λ z. u (idle_stays d f (simple d a) z n.no_tad));
        }

neither : (fs : List ℕ) → No Aau fs → No Tad fs → Every Neither fs
neither [] u v = tt
neither (f ∷ fs) u v = (record { no_aau = u.0; no_tad = v.0 }, neither fs u.1 v.1)

-- ---- along the line of an area

in_row : (k : ℕ) (a : List ℕ) → EachDevice (Set k) a → InRow k a
in_row k a u =
    record {
      configured = λ i h. (u i h).set;
      address = λ i h. (u i h).address;
      differ = λ i j h l e. omega (arith, (u i h).address, (u j l).address);
    }

one_talker : (k t : ℕ) (a : List ℕ) → EachDevice (Named k t) a → OneTalker t a
one_talker k t a u =
    record {
      one = λ i j h l m n.
          omega (arith, (u i h).named m, (u j l).named n, (u i h).set.address, (u j l).set.address);
      named = λ i h. (u i h).named;
    }

-- from an area with empty links whose devices are set
module _ (k : ℕ) (a : List ℕ) (j : Judged a) (empty : AllEmpty a) (set : States papers (Set k) (line_of a)) where
  -- any steps without an AAU
  set_still : (ss : List Step) → No Aau (frames_put a ss) → States papers (Set k) (line_of (area_left a ss))
  set_still ss n =
      flows_keep papers (λ f. Of Aau f → ⊥) (Set k) (set_keeps k) (flows a j ss) n
      (empty_links papers (λ f. Of Aau f → ⊥) (line_of a) (line_empty a j empty)) set

  -- and a TAD
  module _ (t : ℕ) (ss rs : List Step) (g : TadGone t a ss rs) where
    abbrev x : List ℕ
    x = area_left a ss

    x_judged : Judged x
    x_judged = left_judged a j ss

    abbrev y : List ℕ
    y = area_left x rs

    y_judged : Judged y
    y_judged = left_judged x x_judged rs

    y_empty : Empty (line_of y)
    y_empty = line_empty y y_judged g.tad_alone.back

    spoken_line : States papers (Spoken k t) (line_of y)
    spoken_line =
        let r = g.tad_alone in
        (flows_pass papers (λ i. tad t) (Set k) (Spoken k t) (tad_passes k t g.talk_address) (flows x x_judged rs)
        r.alone (line_empty x x_judged r.empty) y_empty (set_still ss g.no_aau)).0

    spoken_each : EachDevice (Spoken k t) y
    spoken_each = of_states y y_judged (Spoken k t) spoken_line

    named_line : States papers (Named k t) (line_of y)
    named_line = to_states y y_judged (Named k t) (λ i h. (spoken_each i h).named)

    -- and any steps without an AAU or a TAD
    talks_on : (us : List Step) → No Aau (frames_put y us) → No Tad (frames_put y us) → OneTalker t (area_left y us)
    talks_on us u v =
        one_talker k t (area_left y us) (of_states (area_left y us) (left_judged y y_judged us) (Named k t)
        (flows_keep papers Neither (Named k t) (named_keeps k t) (flows y y_judged us) (neither (frames_put y us) u v)
        (empty_links papers Neither (line_of y) y_empty) named_line))

  lasting : Lasts k a
  lasting =
      record {
        stay = λ ss n.
            let b = area_left a ss in in_row k b (of_states b (left_judged a j ss) (Set k) (set_still ss n));
        one_talker = λ t ss rs g. one_talker k t (y t ss rs g) (λ i h. (spoken_each t ss rs g i h).named);
        talks = λ t ss rs g i h. (spoken_each t ss rs g i h).talker;
        while_it_talks = λ t ss rs us g. talks_on t ss rs g us;
      }

module _ (k : ℕ) (a : List ℕ) (ss rs : List Step) (j : Judged a) (p : Conditions k a ss rs) where
  -- the area after AAU, and after AAD
  abbrev b : List ℕ
  b = area_left a ss

  b_judged : Judged b
  b_judged = left_judged a j ss

  abbrev c : List ℕ
  c = area_left b rs

  c_judged : Judged c
  c_judged = left_judged b b_judged rs

  count : line.devices (line_of b) ≡ count_in a
  count = sym (same_devices (flows a j ss)) ∙ sym (line_count a j)

  unset_then : States papers Unset (line_of b)
  unset_then =
      let u = p.aau_gone in
      flows_lately papers aau (λ f. Of Aad f → ⊥) Fit Unset aau_leaves_all (flows a j ss)
      (rw u.put (lately papers aau (λ f. Of Aad f → ⊥) u.earlier u.later u.no_aad))
      (line_empty b b_judged u.back)
      (to_states a j Fit (λ i h. record { good = device_good a j i; able = p.able i h }))

  ready_then : States papers (Ready k) (line_of b)
  ready_then =
      to_states b b_judged (Ready k)
      (λ i h. record {
        unset = of_states b b_judged Unset unset_then i h;
        room = omega (arith, p.enough, count, line_count b b_judged);
      })

  given : States papers (Set k) (line_of c) × (frames_taken b rs ≡ aad (k + line.devices (line_of b)) ∷ [])
  given =
      let r = p.aad_alone in
      let z : k + 0 ≡ k = omega arith in
      flows_pass papers (λ i. aad (k + i)) (Ready k) (Set k) (aad_passes k) (flows b b_judged rs) (rw z r.alone)
      (line_empty b b_judged r.empty) (line_empty c c_judged r.back) ready_then

  all_addressed : Promised k a ss rs
  all_addressed =
      record {
        in_row = in_row k c (of_states c c_judged (Set k) given.0);
        out = given.1 ∙ ap (λ (n : ℕ). aad (k + n) ∷ []) count;
        lasts = lasting k c c_judged p.aad_alone.back given.0;
      }

-- ---- right round

sum_ones : (n : ℕ) (g : ℕ → ℕ) → ((i : ℕ) → i < n → g i ≡ 1) → told.sum_over n g ≡ n
sum_ones zero g h = refl
sum_ones (suc n) g h = omega (arith, sum_ones n g (λ i l. h i (omega arith)), h n (omega arith))

whole : (f : ℕ) (a : List ℕ) (ss : List Step) → Judged a → RoundAlone f a ss → Whole a ss
whole f a ss j r =
    let u = flows_long papers (flows a j ss) (line_empty a j r.empty)
    (line_empty (area_left a ss) (left_judged a j ss) r.back) in
    let one : length (frames_put a ss) ≡ 1 = ap length r.alone in
    let each : (i : ℕ) → i < count_in a → told.hops_in (turns_of a ss i) ≡ 1 =
    λ i h. u.1 i (rw (line_count a j) at h) ∙ one in
    record {
      each_hops = each;
      hops = sym (turns_are_seen a ss j).hops_add_up ∙ sum_ones (count_in a) _ each;
      one_out = u.0 ∙ one;
    }

-- hops and a take put nothing
none_put : (i n : ℕ) (rs : List Answer) → each (of_call [] put_by) (hops_from i n ++ (call take ∷ [])) rs ≡ []
none_put i zero [] = refl
none_put i zero (r ∷ rs) = refl
none_put i (suc n) [] = refl
none_put i (suc n) (r ∷ rs) = none_put (suc i) n rs

-- where no step is refused, the put is not
put_alone : (f : ℕ) (a : List ℕ) → steps_refused a (sent_round a f) ≡ 0 → frames_put a (sent_round a f) ≡ f ∷ []
put_alone f a z = go (eqb (refusal_in r) 0) (omega (arith, z))
  where
    r : Answer
    r = (acts (put f) a).answer

    rs : List Answer
    rs = (history (acts (put f) a).area (hops_from 0 (count_in a) ++ (call take ∷ []))).1

    go : (t : Bool) → ◌≡◌ {A = ℕ} (cond t 0 1) 0 →
        if t f ++ each (of_call [] put_by) (hops_from 0 (count_in a) ++ (call take ∷ [])) rs ≡ f ∷ []
    go true e = rw (none_put 0 (count_in a) rs)
    go false e = absurd (omega (arith, e))

sent : (f : ℕ) (a : List ℕ) → Judged a → AllEmpty a → f < frames → RoundAlone f a (sent_round a f)
sent f a j e h =
    let t : List Byte = replicate (told_size * count_in a) byte-zero in
    let long : length (numbers t) ≡ told_size * count_in a =
    length-map t (λ (b : Byte). b.value) ∙ length-replicate (told_size * count_in a) byte-zero in
    let w = plain_engine.witnessed a f t j e h long in
    record { empty = e; alone = put_alone f a w.accepted; back = w.empty_again }

aau_alone : (a : List ℕ) (ss : List Step) → RoundAlone aau a ss → AauGone a ss
aau_alone a ss r = record { earlier = []; later = []; put = r.alone; no_aad = tt; back = r.back }

pub rounds : Rounds
rounds = record { whole = whole; sent = sent; aau_alone = aau_alone }

-- ---- the theorem

by_sending : (k : ℕ) (a : List ℕ) → Judged a → AllEmpty a → AllAble a → k + count_in a ≤ no_address →
    let ss = sent_round a aau in Promised k a ss (sent_round (area_left a ss) (aad k))
by_sending k a j e able h =
    let ss = sent_round a aau in
    let r = sent aau a j e (omega arith) in
    let rs = sent_round (area_left a ss) (aad k) in
    let q = sent (aad k) (area_left a ss) (left_judged a j ss) r.back (omega arith) in
    all_addressed k a ss rs j
    (record { able = able; aau_gone = aau_alone a ss r; aad_alone = q; enough = h })

pub no_two_meters : NoTwoMeters
no_two_meters = record { from_any_area = all_addressed; by_sending = by_sending }
