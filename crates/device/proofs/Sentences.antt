-- The sentences of specs/Sentences.antt, in the papers' order: some are told of every rule (Told), the others follow
-- from the rule of their frames.
use Prim.Native.Nat.{ℕ, ◌+◌, ◌-◌, ◌≤◌, ◌<◌}
use mathlib.Core.Path.{◌≡◌, refl, sym, ap, ◌∙◌}
use mathlib.Core.Bool.{Bool, true, false, and-false}
use mathlib.Core.Logic.{◌⊎◌, inl, inr, ⊎_elim}
use native.Mathlib.Omega.{arith}
use lib.Bits.{or_zero_r}
use lib.Dec.{eqb}
use lib.ListN.{get_or}
use borrow.Author.Tests.{ltb-true, lt-ltb, eq-eqb, ne_eqb}
use Rattle.frame.specs.Messages.{kind_at, messages, first_in, first_of, codes_in, codes_of}
use Rattle.frame.specs.Decoding.{end, idy, has_c1, offset_in, decoded, frame_of}
use Rattle.frame.specs.declared.Kind.TheVariants.{End, Sdc, Dcl}
use Rattle.frame.specs.Classes.{IsData}
use Rattle.frame.specs.Laws.{CodeOf}
use Rattle.frame.specs.declared.Message.{Message}
use Rattle.frame.proofs.Rows.{within_kind}
use Rattle.frame.proofs.Laws.{free, has, data_kind, data_again, idy_kind}
use Rattle.device.specs.Choose.{choose}
use Rattle.device.specs.Device.{listen, unaddress, idle, addressed, sending_data, REMS, end_last, sending}
use Rattle.device.specs.Device.{has as able}
use Rattle.device.specs.Change.{talking}
use Rattle.device.specs.Remote.{to_remote, llo, gtl, key}
use Rattle.device.specs.Poll.{unassigned, answer, answered}
use Rattle.device.specs.Commands.{lad, tad, ifc}
use Rattle.device.specs.Clear.{to_listener}
use Rattle.device.specs.Reply.{eto, ete, sends, with_c1, marked, stops, data_frame, sends_data, continues}
use Rattle.device.specs.Ready.{requested, aad}
use Rattle.device.specs.Data.{agrees, returned, heard, data_or_end}
use Rattle.device.specs.Extended.{primary_idle, primary_lost, extended_lad, extended_tad}
use Rattle.device.specs.Take.{takes_simple, takes_extended, takes}
use Rattle.device.specs.Sentences.{ShowsC1, Sending, CommandsGoOn, NoLadIs31, NoTadIs31, ConfiguredPassesAad}
use Rattle.device.specs.Sentences.{OwnNotHanded, OwnNotPassed, OwnCompared, IdyGoesOn, ServiceShown, C1Kept}
use Rattle.device.specs.Sentences.{Of, NoneOfItsOwn, EndWhereAsked, EndOnlyAsked, LeavingZeroes, EventsReported}
use Rattle.device.specs.Sentences.{EventsChangeNothing, SameRemote, OthersLeaveRemote, IfcLeavesRemote}
use Rattle.device.specs.Sentences.{OnlyEnabled, GtlOnlyListener, KeyOnlyUnlocked}
use Rattle.device.specs.declared.Device.{Device}
use Rattle.device.specs.declared.Handed.{Handed}
use Rattle.device.specs.declared.Handed.TheVariants.{Clear, Trigger}
use Rattle.device.specs.Sent.{Sent}
use Rattle.device.proofs.Classes.{data_frame_lem, idy_frame}
use Rattle.device.proofs.Chosen.{chosen, by_variant, lost, lost_extended, lost_simple, as_simple, as_lost}
use Rattle.device.proofs.Marked.{Shows, data_shows, idy_shows, reply, set, made, marked_kind, marked_code}
use Rattle.device.proofs.Marked.{answers, marked_bits, marked_same, marked_keeps}
use Rattle.device.proofs.Told.{told}
use Rattle.device.proofs.Untouched.{plain, apart, untouched}

pub commands_go_on : CommandsGoOn
commands_go_on d f c = (told d f).command c

lad_other : (d : Device) (a : ℕ) → (a ≡ d.address → ⊥) → lad d a ≡ d
unfolding lad choose
lad_other d a n = rw (ne_eqb a d.address n)

extended_lad_other : (d : Device) (a : ℕ) → (a ≡ d.address → ⊥) → extended_lad d a ≡ primary_idle d
unfolding extended_lad choose
extended_lad_other d a n = rw (ne_eqb a d.address n)

pub no_lad_is_31 : NoLadIs31
unfolding takes_simple takes_extended choose messages first_in first_of codes_in codes_of has_c1 offset_in
no_lad_is_31 d f a e =
    let h : f < 0x43f = (within_kind f 12 e (omega arith)).1 in
    by_variant (λ (s : Sent). s.device ≡ primary_lost d) d f
    (λ x. rw (e, lost_extended d x) (extended_lad_other d (f - 0x420) (λ q. omega arith)))
    (λ x. rw (e, lost_simple d x) (lad_other d (f - 0x420) (λ q. omega arith)))

tad_other : (d : Device) (a : ℕ) → (a ≡ d.address → ⊥) → tad d a ≡ talking d idle
unfolding tad choose
tad_other d a n = rw (ne_eqb a d.address n)

extended_tad_other : (d : Device) (a : ℕ) → (a ≡ d.address → ⊥) → extended_tad d a ≡ talking (primary_idle d) idle
unfolding extended_tad choose
extended_tad_other d a n = rw (ne_eqb a d.address n)

pub no_tad_is_31 : NoTadIs31
unfolding takes_simple takes_extended choose messages first_in first_of codes_in codes_of has_c1 offset_in
no_tad_is_31 d f a e =
    let h : f < 0x45f = (within_kind f 14 e (omega arith)).1 in
    by_variant (λ (s : Sent). s.device ≡ talking (primary_lost d) idle) d f
    (λ x. rw (e, lost_extended d x) (extended_tad_other d (f - 0x440) (λ q. omega arith)))
    (λ x. rw (e, lost_simple d x) (tad_other d (f - 0x440) (λ q. omega arith)))

pub configured_passes_aad : ConfiguredPassesAad
unfolding takes_simple takes_extended choose aad
configured_passes_aad d f c e =
    by_variant (λ (s : Sent). s ≡ sends d f) d f (λ x. rw e) (λ x. rw (e, ne_eqb d.configured 0 c))

pub own_not_handed : OwnNotHanded
own_not_handed d f b e s = (told d f).unhanded s b e

own_returned : (d : Device) (f : ℕ) → Sending d → IsData f → takes d f ≡ returned d (decoded f)
unfolding data_or_end choose
own_returned d f s i = rw (data_frame_lem d f i.past, lt-ltb addressed d.talker s)

module _ (d : Device) (m : Message) where
  differing : agrees m (decoded d.last) ≡ false → returned d m ≡ stops d ete
  unfolding returned choose
  differing e = rw e

  agreeing : agrees m (decoded d.last) ≡ true →
      returned d m ≡ choose (eqb d.noted 1) (stops d eto) (continues d)
  unfolding returned choose
  agreeing e = rw e

  -- C1 is not looked at
  c1_set : returned d (with_c1 m) ≡ returned d m
  unfolding returned
  c1_set = refl

pub own_not_passed : OwnNotPassed
own_not_passed d f s i = rw (own_returned d f s i) (go (agrees m l) refl)
  where
    m : Message
    m = decoded f

    l : Message
    l = decoded d.last

    Own : Sent → Type 0
    Own x = (x ≡ stops d ete) ⊎ ((x ≡ stops d eto) ⊎ (x ≡ continues d))

    go : (b : Bool) → agrees m l ≡ b → Own (returned d m)
    go true e =
        rw (agreeing d m e) (chosen Own (eqb d.noted 1) _ _ (λ n. inr (inl refl)) (λ n. inr (inr refl)))
    go false e = inl (differing d m e)

-- a data byte with C1 set is one still, and is decoded so
module _ (f : ℕ) (i : IsData f) where
  c1_frame : ℕ
  c1_frame = frame_of (with_c1 (decoded f))

  c1_decoded : decoded c1_frame ≡ with_c1 (decoded f)
  unfolding c1_frame
  c1_decoded = (made (with_c1 (decoded f)) (set (data_shows f i.past))).again

  c1_data : IsData c1_frame
  c1_data =
      let e : kind_at c1_frame ≡ kind_at f = ap (λ (n : Message). n.kind) c1_decoded in
      record { past = data_again c1_frame (⊎_elim (λ k. inl (e ∙ k)) (λ k. inr (e ∙ k)) (data_kind f i.past)) }

pub own_compared : OwnCompared
unfolding c1_frame
own_compared d f s i =
    record {
      kinds_differ = λ n. own ∙ differing d m (rw (ne_eqb m.kind l.kind n));
      bits_differ = λ n. own ∙ differing d m (rw (ne_eqb m.offset l.offset n, and-false));
      agreed = λ k b. own ∙ agreeing d m (rw (eq-eqb m.kind l.kind k, eq-eqb m.offset l.offset b));
      c1_uncounted =
          own_returned d (c1_frame f i) s (c1_data f i) ∙ ap (returned d) (c1_decoded f i) ∙ c1_set d m ∙ sym own;
    }
  where
    m : Message
    m = decoded f

    l : Message
    l = decoded d.last

    own : takes d f ≡ returned d m
    own = own_returned d f s i

code_of : (j k x : ℕ) → k ≡ j → CodeOf k x → CodeOf j x
code_of j k x e w = rw e at w

-- no bit is assigned, and none is added
no_answer : (d : Device) → d.assigned ≡ unassigned → answer d ≡ 0
unfolding answer choose
no_answer d a = rw a

pub idy_goes_on : IdyGoesOn
unfolding messages first_in first_of codes_in codes_of
idy_goes_on =
    record {
      not_handed = λ d f i. rw (idy_frame d f i.first i.past);
      still_idy =
          λ d f i. let m = answered d (decoded f) in
          let w = marked_code d m (answers d (idy_shows f i.first i.past)) in
          let v = code_of idy (kind_at f) (marked d m) (idy_kind f i.first i.past) w in
          rw (idy_frame d f i.first i.past) (record { first = omega (arith, v.0); past = omega (arith, v.1) });
      answered_bits =
          λ d f i. rw (idy_frame d f i.first i.past)
          (marked_bits d (answered d (decoded f)) (answers d (idy_shows f i.first i.past)));
      same_bits =
          λ d f a i. rw (idy_frame d f i.first i.past)
          (marked_bits d (answered d (decoded f)) (answers d (idy_shows f i.first i.past))
          ∙ rw (no_answer d a) (or_zero_r (decoded f).offset));
      same_device = λ d f i. rw (idy_frame d f i.first i.past);
    }

-- the last byte of the data, asked for as END
last_out : (d : Device) → d.choice ≡ end_last → d.sent + 1 ≡ d.loadlength → get_or d.load d.sent 0 < 256 →
    d.talker ≡ sending_data → Of End (continues d).frame
unfolding continues sends_data data_frame choose has_c1
last_out d c l b t =
    rw (
      eq-eqb d.talker sending_data t,
      lt-ltb d.sent d.loadlength (omega arith),
      eq-eqb (d.sent + 1) d.loadlength l,
      eq-eqb d.choice end_last c,
    )
    (marked_kind d _ (reply end _ refl b))

pub end_where_asked : EndWhereAsked
unfolding takes_simple requested choose
end_where_asked =
    record {
      at_sda = λ d f l t h e.
          rw (as_simple d f _ e refl refl, e, eq-eqb d.talker addressed t, h)
          (last_out (talking d sending_data) l.chosen l.last l.byte refl);
      at_own_byte = λ d f l t n i k b.
          rw ((own_compared d f (omega arith) i).agreed k b, ne_eqb d.noted 1 n)
          (last_out d l.chosen l.last l.byte t);
    }

pub end_only_asked : EndOnlyAsked
end_only_asked d f b c e = (told d f).asked b c e

pub none_of_its_own : NoneOfItsOwn
none_of_its_own =
    record { command = λ d f b. ((told d f).given b).command; aad = λ d f b. ((told d f).given b).aad }

pub service_shown : ServiceShown
service_shown d f b a s = (told d f).shown b a s

-- a frame with C1 goes out as it came
passed : (d : Device) (f : ℕ) → Shows (decoded f) → ShowsC1 f → marked d (decoded f) ≡ f
passed d f s h = marked_same d (decoded f) h ∙ (has f (free (kind_at f) s.free).listed).frame

heard_same : (d : Device) (f : ℕ) → Shows (decoded f) → ShowsC1 f → (heard d (decoded f)).frame ≡ f
unfolding heard
heard_same d f s h =
    let m = passed d f s h in
    chosen (λ (s : Sent). s.frame ≡ f) (eqb d.listener 1) _ _ (λ e. m) (λ e. m)

data_or_end_same : (d : Device) (f : ℕ) → d.talker ≤ addressed → Shows (decoded f) → ShowsC1 f →
    (data_or_end d (decoded f)).frame ≡ f
unfolding data_or_end
data_or_end_same d f t s h =
    chosen (λ (s : Sent). s.frame ≡ f) (sending d) _ _
    (λ e. absurd (omega (arith, ltb-true addressed d.talker e))) (λ e. heard_same d f s h)

pub c1_kept : C1Kept
c1_kept =
    record {
      on_data = λ d f t i h. rw (data_frame_lem d f i.past) (data_or_end_same d f t (data_shows f i.past) h);
      on_idy =
          λ d f i h. rw (idy_frame d f i.first i.past)
          (marked_keeps d (answered d (decoded f)) (answers d (idy_shows f i.first i.past)) h);
    }

pub leaving_zeroes : LeavingZeroes
leaving_zeroes d f s n = (told d f).left s n

-- ---- clear, trigger, remote and local

-- what reaches a listener alone leaves the device, reported or not
listener_leaves : (d : Device) (f : ℕ) (h : Handed) → (to_listener d f h).device ≡ d
unfolding to_listener
listener_leaves d f h =
    chosen (λ (s : Sent). s.device ≡ d) (eqb d.listener 1) _ _ (λ e. refl) (λ e. refl)

-- and reports it at one
listener_told : (d : Device) (f : ℕ) (h : Handed) → d.listener ≡ 1 → (to_listener d f h).handed ≡ h
unfolding to_listener choose
listener_told d f h l = rw (eq-eqb d.listener 1 l)

listener_lost : (d : Device) → d.listener ≡ 1 → (primary_lost d).listener ≡ 1
listener_lost d l = lost d (λ (x : Device). x.listener ≡ 1) l l

pub events_reported : EventsReported
unfolding takes_simple choose
events_reported =
    record {
      clear = λ d f c. ⊎_elim (λ (e : Of Dcl f). rw (as_lost d f _ e refl refl, e))
          (λ (p : Of Sdc f × (d.listener ≡ 1)). rw (as_lost d f _ p.0 refl refl, p.0)
          (listener_told (primary_lost d) f Clear (listener_lost d p.1))) c;
      trigger = λ d f p. rw (as_lost d f _ p.0 refl refl, p.0)
          (listener_told (primary_lost d) f Trigger (listener_lost d p.1));
      only_clear = λ d f h. (told d f).cleared h;
      only_trigger = λ d f h. (told d f).triggered h;
    }

pub events_change_nothing : EventsChangeNothing
unfolding takes_simple choose
events_change_nothing d f (inl e) = rw (as_lost d f _ e refl refl, e)
events_change_nothing d f (inr (inl e)) =
    rw (as_lost d f _ e refl refl, e) (listener_leaves (primary_lost d) f Clear)
events_change_nothing d f (inr (inr e)) =
    rw (as_lost d f _ e refl refl, e) (listener_leaves (primary_lost d) f Trigger)

pub others_leave_remote : OthersLeaveRemote
others_leave_remote d f n =
    let e = untouched {A = ℕ × ℕ} _ (plain (λ r e a s k. (r, e))) (apart (λ r e a s k. (r, e))) d f
    (λ r. absurd (n r)) (λ a d x. refl) in
    record { remote = ap (λ (p : ℕ × ℕ). p.0) e; enabled = ap (λ (p : ℕ × ℕ). p.1) e }

pub ifc_leaves_remote : IfcLeavesRemote
unfolding takes_simple choose
ifc_leaves_remote d f e =
    rw (as_lost d f _ e refl refl, e)
    (lost d (λ (x : Device). SameRemote d (ifc x)) (record { remote = refl; enabled = refl })
    (record { remote = refl; enabled = refl }))

disabled : (d : Device) → (d.enabled ≡ 1 → ⊥) → to_remote d ≡ d
unfolding to_remote choose
disabled d n = rw (ne_eqb d.enabled 1 n)

lad_same : (d : Device) (a : ℕ) → (d.enabled ≡ 1 → ⊥) → SameRemote d (lad d a)
unfolding lad
lad_same d a n =
    rw (disabled d n)
    (chosen (SameRemote d) (eqb a d.address) _ d
    (λ e. chosen (SameRemote d) (able d listen) _ d
    (λ h. chosen (SameRemote d) (able d unaddress) _ _ (λ u. record { remote = refl; enabled = refl })
    (λ u. record { remote = refl; enabled = refl }))
    (λ h. record { remote = refl; enabled = refl }))
    (λ e. record { remote = refl; enabled = refl }))

extended_lad_same : (d : Device) (a : ℕ) → (d.enabled ≡ 1 → ⊥) → SameRemote d (extended_lad d a)
unfolding extended_lad
extended_lad_same d a n =
    rw (disabled d n)
    (chosen (SameRemote d) (eqb a d.address) _ _
    (λ e. chosen (SameRemote d) (able d listen) _ _ (λ h. record { remote = refl; enabled = refl })
    (λ h. record { remote = refl; enabled = refl }))
    (λ e. record { remote = refl; enabled = refl }))

llo_same : (d : Device) → (d.enabled ≡ 1 → ⊥) → llo d ≡ d
unfolding llo choose
llo_same d n = rw (ne_eqb d.enabled 1 n)

pub only_enabled : OnlyEnabled
unfolding takes_simple takes_extended choose
only_enabled d f n (inl e) =
    rw (as_lost d f _ e refl refl, e)
    (lost d (λ (x : Device). SameRemote d (llo x))
    (rw (llo_same (primary_idle d) n) (record { remote = refl; enabled = refl }))
    (rw (llo_same d n) (record { remote = refl; enabled = refl })))
only_enabled d f n (inr e) =
    by_variant (λ (s : Sent). SameRemote d s.device) d f (λ x. rw e (extended_lad_same d _ n))
    (λ x. rw e (lad_same d _ n))

gtl_same : (d : Device) → (d.listener ≡ 1 → ⊥) → gtl d ≡ d
unfolding gtl choose
gtl_same d n = rw (ne_eqb d.listener 1 n)

pub gtl_only_listener : GtlOnlyListener
unfolding takes_simple choose
gtl_only_listener d f n e =
    rw (as_lost d f _ e refl refl, e)
    (lost d (λ (x : Device). gtl x ≡ x) (gtl_same (primary_idle d) n) (gtl_same d n))

pub key_only_unlocked : KeyOnlyUnlocked
unfolding key choose
key_only_unlocked d n = rw (ne_eqb d.remote REMS n)
