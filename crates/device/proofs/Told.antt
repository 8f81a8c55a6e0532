-- What is told of every frame: sentences of specs/Sentences.antt together, so that the rules are gone through once for
-- all of these (Untouched has those that only leave a value).
use Prim.Native.Nat.{ℕ, ◌+◌, ◌≤◌, ◌<◌}
use mathlib.Core.Path.{◌≡◌, refl, sym, ap, ◌∙◌}
use mathlib.Core.Logic.{◌⊎◌, inl, inr, ⊎_elim}
use mathlib.Core.Bool.{Bool, true, false, ◌&&◌, ◌||◌, and-false}
use native.Mathlib.Omega.{arith}
use native.Mathlib.Decide.{dec_lt}
use lib.Dec.{eqb, ltb}
use borrow.Author.Tests.{eqb-true, ne_eqb, ltb-false}
use Rattle.frame.specs.declared.Kind.TheVariants.{End, Sdc, Get, Dcl, Aad, Aes}
use Rattle.frame.specs.Messages.{kind_at, messages, first_in, first_of, codes_in, codes_of}
use Rattle.frame.specs.Classes.{IsCommand}
use Rattle.frame.specs.Decoding.{dab, end, idy, has_c1, decoded}
use Rattle.frame.specs.declared.Message.{Message}
use Rattle.frame.proofs.Rows.{within_kind}
use Rattle.frame.proofs.Laws.{idy_kind}
use Rattle.device.specs.Choose.{choose}
use Rattle.device.specs.Device.{listen, status, auto_address, unaddress, idle, addressed, sending_data}
use Rattle.device.specs.Device.{sending_status, asking, end_last, no_address, half_assigned, parallel_poll}
use Rattle.device.specs.Device.{has, has_further, talks, present_second, listen_primary, talk_primary, sending}
use Rattle.device.specs.Change.{listening, talking, counting}
use Rattle.device.specs.Remote.{to_remote, llo, gtl}
use Rattle.device.specs.Poll.{ppe, ppd}
use Rattle.device.specs.Commands.{lad, tad, aau}
use Rattle.device.specs.Clear.{reports, to_listener}
use Rattle.device.specs.Reply.{eto, ete, sends, marked, stops, data_frame, other_byte, other_frame, other_length}
use Rattle.device.specs.Reply.{sends_data, sends_other, continues}
use Rattle.device.specs.Ready.{requested, polls, sst, nrd, aad}
use Rattle.device.specs.Data.{returned, heard, data_or_end}
use Rattle.device.specs.Extended.{command_kind, primary_idle, heeding, extended_lad, extended_tad, sad_listens}
use Rattle.device.specs.Extended.{sad_talks, sad, aes, aep}
use Rattle.device.specs.Take.{rules, extended_rules, takes_simple, takes_extended, takes}
use Rattle.device.specs.Sentences.{Of, ShowsC1, Sending, ShowsService, OfBytes, Zeroed, ClearDue, TriggerDue}
use Rattle.device.specs.declared.Device.{Device}
use Rattle.device.specs.declared.Handed.{Handed}
use Rattle.device.specs.declared.Handed.TheVariants.{Nothing, Byte, Clear, Trigger}
use Rattle.device.specs.Sent.{Sent}
use Rattle.device.proofs.Dispatch.{outside, elsewhere}
use Rattle.device.proofs.Classes.{data_frame_lem, idy_frame, aad_codes, aes_codes}
use Rattle.device.proofs.Chosen.{chosen, selected, by_variant}
use Rattle.device.proofs.Marked.{Shows, shows, data_shows, idy_shows, answers, reply, other_small}
use Rattle.device.proofs.Marked.{marked_kind, marked_asks}

-- e has d's talker state, or bytes 8, 14, 15, 16 zero
abbrev pub Left : Device → Device → Type 0
Left d e = (e.talker ≡ d.talker → ⊥) → Zeroed e

-- x is a command only if it is f, and an AAD only if f is one
pub record Given (f x : ℕ) : Type 0 where
  pub command : IsCommand x → x ≡ f
  pub aad : Of Aad x → Of Aad f

-- d, given the frame f, does s
pub record Told (d : Device) (f : ℕ) (s : Sent) : Type 0 where
  pub command : IsCommand f → s.frame ≡ f
  pub unhanded : Sending d → (b e : ℕ) → s.handed ≡ Byte b e → ⊥
  pub cleared : s.handed ≡ Clear → ClearDue d f
  pub triggered : s.handed ≡ Trigger → TriggerDue d f
  pub left : Sending d → Left d s.device
  pub shown : OfBytes d → s.device.service ≡ asking → ShowsService s.frame → ShowsC1 s.frame
  pub asked : OfBytes d → (d.choice ≡ end_last → ⊥) → Of End s.frame → Of End f × (d.talker ≤ addressed)
  pub given : OfBytes d → Given f s.frame

-- the cases of what is handed over, told apart by numbers
abbrev case : Handed → ℕ
case Nothing = 0
case Clear = 1
case Trigger = 2
case (Byte b e) = 3

apart : {h k : Handed} {Q : Type 0} → (case h ≡ case k → ⊥) → h ≡ k → Q
apart n e = absurd (n (ap case e))

stays : (d e : Device) → e.talker ≡ d.talker → Left d e
stays d e q n = absurd (n q)

zeroes : (d e : Device) (x : ℕ) → Left d (talking e x)
zeroes d e x n = record { noted = refl; last = refl; replied = refl }

-- what a device can reply with stays
kept : (d : Device) (x : ℕ) → OfBytes d → OfBytes (talking d x)
kept d x b = record { status = b.status; accessory = b.accessory; id = b.id; load = b.load }

polls_kept : (d : Device) → OfBytes d → OfBytes (polls d)
unfolding polls
polls_kept d b =
    chosen OfBytes (eqb d.service asking) _ d
    (λ e. record { status = b.status; accessory = b.accessory; id = b.id; load = b.load }) (λ e. b)

polls_choice : (d : Device) → (polls d).choice ≡ d.choice
unfolding polls
polls_choice d = chosen (λ (e : Device). e.choice ≡ d.choice) (eqb d.service asking) _ d (λ e. refl) (λ e. refl)

-- a command or a ready frame
no_service : (f : ℕ) → 0x400 ≤ f → f < 0x600 → ShowsService f → ⊥
no_service f l h = ⊎_elim (λ i. omega (arith, i.past)) (λ i. omega (arith, i.first))

-- is no END, and neither is what a device replies with that is not asked for END
end_past : (f : ℕ) → Of End f → f < 0x400
unfolding messages first_in first_of codes_in codes_of
end_past f e = (within_kind f 2 e (omega arith)).1

no_end : (f : ℕ) → 0x400 ≤ f → Of End f → ⊥
no_end f l e = omega (arith, end_past f e)

-- what is neither a command nor an AAD
neither : (f x : ℕ) → (IsCommand x → ⊥) → (Of Aad x → ⊥) → Given f x
neither f x c a = record { command = λ i. absurd (c i); aad = λ e. absurd (a e) }

-- an answer or a ready frame, but for AAD and what comes behind it
answer_given : (f x : ℕ) → 0x500 ≤ x → x < 0x580 → Given f x
answer_given f x l h = neither f x (λ c. omega (arith, c.past)) (λ e. omega (arith, (aad_codes x e).0))

-- no frame with C1 is among commands and ready frames,
outer : (x : ℕ) → has_c1 (kind_at x) ≡ true → 0x400 ≤ x → x < 0x600 → ⊥
unfolding has_c1 messages first_in first_of codes_in codes_of
outer x t l h = go (eqb (kind_at x) dab) (eqb (kind_at x) end) (eqb (kind_at x) idy) refl refl refl t
  where
    here : (k : ℕ) → outside 0x400 0x600 k ≡ true → eqb (kind_at x) k ≡ true → ⊥
    here k o e = elsewhere 0x400 0x600 x k l h o (eqb-true _ _ e)

    go : (a b c : Bool) → eqb (kind_at x) dab ≡ a → eqb (kind_at x) end ≡ b → eqb (kind_at x) idy ≡ c →
        (a || (b || c)) ≡ true → ⊥
    go true b c p q r t = here dab refl p
    go false true c p q r t = here end refl q
    go false false true p q r t = here idy refl r
    go false false false p q r t = let y : false ≡ true = t in let z : ◌≡◌ {A = ℕ} 0 1 = cc in omega arith

-- so a DAB, END or IDY is neither command nor AAD
shown_given : (d : Device) (f : ℕ) (m : Message) → Shows m → Given f (marked d m)
shown_given d f m i =
    let o = outer (marked d m) (ap has_c1 (marked_kind d m i) ∙ i.free) in
    neither f (marked d m) (λ c. o c.first (omega (arith, c.past)))
    (λ e. let w = aad_codes (marked d m) e in o (omega (arith, w.0)) (omega (arith, w.1)))

data_plain : (d : Device) → OfBytes d → (d.choice ≡ end_last → ⊥) → Of End (data_frame d) → ⊥
unfolding data_frame choose has_c1
data_plain d b n =
    let k = marked_kind d _ (reply dab _ refl (b.load d.sent)) in
    rw (ne_eqb d.choice end_last n, and-false (eqb (d.sent + 1) d.loadlength)) (λ e. omega (arith, k, e))

other_plain : (d : Device) → OfBytes d → Of End (other_frame d) → ⊥
unfolding has_c1
other_plain d b e = omega (arith, marked_kind d _ (reply dab (other_byte d) refl (other_small d b)), e)

data_asks : (d : Device) → OfBytes d → d.service ≡ asking → ShowsC1 (data_frame d)
unfolding data_frame has_c1
data_asks d b a =
    let o = b.load d.sent in
    chosen ShowsC1 (eqb (d.sent + 1) d.loadlength && eqb d.choice end_last) _ _
    (λ e. marked_asks d _ (reply end _ refl o) a) (λ e. marked_asks d _ (reply dab _ refl o) a)

other_asks : (d : Device) → OfBytes d → d.service ≡ asking → ShowsC1 (other_frame d)
unfolding has_c1
other_asks d b a = marked_asks d _ (reply dab (other_byte d) refl (other_small d b)) a

data_given : (d : Device) (f : ℕ) → OfBytes d → Given f (data_frame d)
unfolding data_frame has_c1
data_given d f b =
    let o = b.load d.sent in
    chosen (Given f) (eqb (d.sent + 1) d.loadlength && eqb d.choice end_last) _ _
    (λ e. shown_given d f _ (reply end _ refl o)) (λ e. shown_given d f _ (reply dab _ refl o))

other_given : (d : Device) (f : ℕ) → OfBytes d → Given f (other_frame d)
unfolding has_c1
other_given d f b = shown_given d f _ (reply dab (other_byte d) refl (other_small d b))

-- ---- commands, and NRD

module _ (d : Device) where
  pub remote_talker : (to_remote d).talker ≡ d.talker
  unfolding to_remote
  remote_talker = chosen (λ (x : Device). x.talker ≡ d.talker) (eqb d.enabled 1) _ d (λ e. refl) (λ e. refl)

  lad_left : (a : ℕ) → Left d (lad d a)
  unfolding lad
  lad_left a =
      chosen (Left d) (eqb a d.address) _ d
      (λ e. chosen (Left d) (has d listen) _ d
      (λ h. chosen (Left d) (has d unaddress) _ _ (λ u. zeroes d (listening (to_remote d) 1) idle)
      (λ u. stays d _ remote_talker))
      (λ h. stays d d refl))
      (λ e. stays d d refl)

  llo_left : Left d (llo d)
  unfolding llo
  llo_left = chosen (Left d) (eqb d.enabled 1) _ d (λ h. stays d _ refl) (λ h. stays d d refl)

  gtl_left : Left d (gtl d)
  unfolding gtl
  gtl_left = chosen (Left d) (eqb d.listener 1) _ d (λ h. stays d _ refl) (λ h. stays d d refl)

  ppe_left : (s : ℕ) → Left d (ppe d s)
  unfolding ppe
  ppe_left s =
      chosen (Left d) (eqb d.listener 1) _ d
      (λ h. chosen (Left d) (has_further d parallel_poll) _ d (λ a. stays d _ refl) (λ a. stays d d refl))
      (λ h. stays d d refl)

  ppd_left : Left d (ppd d)
  unfolding ppd
  ppd_left = chosen (Left d) (eqb d.listener 1) _ d (λ h. stays d _ refl) (λ h. stays d d refl)

  tad_left : (a : ℕ) → Left d (tad d a)
  unfolding tad
  tad_left a =
      chosen (Left d) (eqb a d.address) _ _
      (λ e. chosen (Left d) (talks d) _ _
      (λ h. chosen (Left d) (has d unaddress) _ _ (λ u. zeroes d (listening d 0) addressed)
      (λ u. zeroes d d addressed))
      (λ h. zeroes d d idle))
      (λ e. zeroes d d idle)

  aau_left : Left d (aau d)
  unfolding aau
  aau_left = chosen (Left d) (has d auto_address) _ d (λ h. stays d _ refl) (λ h. stays d d refl)

  extended_lad_left : (a : ℕ) → Left d (extended_lad d a)
  unfolding extended_lad
  extended_lad_left a =
      chosen (Left d) (eqb a d.address) _ _
      (λ e. chosen (Left d) (has d listen) _ _ (λ h. stays d _ remote_talker) (λ h. stays d _ refl))
      (λ e. stays d _ refl)

  extended_tad_left : (a : ℕ) → Left d (extended_tad d a)
  unfolding extended_tad
  extended_tad_left a =
      chosen (Left d) (eqb a d.address) _ _
      (λ e. chosen (Left d) (talks d) _ _ (λ h. stays d _ refl) (λ h. zeroes d (primary_idle d) idle))
      (λ e. zeroes d (primary_idle d) idle)

  sad_listens_left : Left d (sad_listens d)
  unfolding sad_listens
  sad_listens_left =
      chosen (Left d) (listen_primary d) _ d
      (λ l. chosen (Left d) (has d listen) _ d
      (λ h. chosen (Left d) (has d unaddress) _ _ (λ u. zeroes d (listening d 1) idle) (λ u. stays d _ refl))
      (λ h. stays d d refl))
      (λ l. stays d d refl)

  sad_talks_left : (e : Device) → Left d e → Left d (sad_talks e)
  unfolding sad_talks
  sad_talks_left e l =
      chosen (Left d) (talk_primary e) _ e
      (λ t. chosen (Left d) (talks e) _ e
      (λ h. chosen (Left d) (has e unaddress) _ _ (λ u. zeroes d (listening e 0) addressed)
      (λ u. zeroes d e addressed))
      (λ h. l))
      (λ t. l)

  sad_left : (a : ℕ) → Left d (sad d a)
  unfolding sad
  sad_left a =
      chosen (Left d) (eqb a (present_second d)) _ _ (λ e. sad_talks_left (sad_listens d) sad_listens_left)
      (λ e. chosen (Left d) (talk_primary d) _ _ (λ t. zeroes d (primary_idle d) idle) (λ t. stays d _ refl))

  aep_left : (a : ℕ) → Left d (aep d a)
  unfolding aep
  aep_left a =
      chosen (Left d) (eqb d.configured half_assigned) _ d
      (λ c. chosen (Left d) (ltb (present_second d) no_address) _ d (λ l. stays d _ refl) (λ l. stays d d refl))
      (λ c. stays d d refl)

  nrd_left : Left d (nrd d)
  unfolding nrd
  nrd_left = chosen (Left d) (sending d) _ d (λ e. stays d _ refl) (λ e. stays d d refl)

-- ---- rules for frames other than commands

module _ (d : Device) (f : ℕ) (n : IsCommand f → ⊥) where
  -- the frame goes on, C1 set if service is 1
  marks : (m : Message) → Shows m → (m.kind ≡ end → Of End f × (d.talker ≤ addressed)) → (h : Handed) →
      (case h ≡ 0) ⊎ (case h ≡ 3) → (Sending d → h ≡ Nothing) →
      Told d f (record { device = d; frame = marked d m; handed = h })
  marks m i p h z k =
      record {
        command = λ c. absurd (n c);
        unhanded = λ s b e q. apart (λ x. omega arith) (sym (k s) ∙ q);
        cleared = apart (λ e. ⊎_elim (λ x. omega arith) (λ x. omega arith) z);
        triggered = apart (λ e. ⊎_elim (λ x. omega arith) (λ x. omega arith) z);
        left = λ s. stays d d refl;
        shown = λ b a s. marked_asks d m i a;
        asked = λ b c e. p (sym (marked_kind d m i) ∙ e);
        given = λ b. shown_given d f m i;
      }

  -- the device e, which is d or is made of d, answers or replies
  module _ (e : Device) where
    stops_told : (x : ℕ) → 0x500 ≤ x → x < 0x580 → Told d f (stops e x)
    stops_told x l h =
        record {
          command = λ c. absurd (n c);
          unhanded = λ s b e. apart (λ z. omega arith);
          cleared = apart (λ e. omega arith);
          triggered = apart (λ e. omega arith);
          left = λ s. zeroes d e addressed;
          shown = λ b a s. absurd (no_service x (omega arith) (omega arith) s);
          asked = λ b c e. absurd (no_end x (omega arith) e);
          given = λ b. answer_given f x l h;
        }

    module _ (same : Sending d → e.talker ≡ d.talker) (bytes : OfBytes d → OfBytes e) (q : e.choice ≡ d.choice)
      where
        counting_told : (x s r : ℕ) → (OfBytes e → e.service ≡ asking → ShowsC1 x) →
            (OfBytes e → (e.choice ≡ end_last → ⊥) → Of End x → ⊥) → (OfBytes e → Given f x) →
            Told d f (sends (counting e x s r) x)
        counting_told x s r h o g =
            record {
              command = λ c. absurd (n c);
              unhanded = λ s b e. apart (λ z. omega arith);
              cleared = apart (λ e. omega arith);
              triggered = apart (λ e. omega arith);
              left = λ s. stays d _ (same s);
              shown = λ b a s. h (bytes b) a;
              asked = λ b c i. absurd (o (bytes b) (λ u. c (sym q ∙ u)) i);
              given = λ b. g (bytes b);
            }

        data_told : Told d f (sends_data e)
        unfolding sends_data
        data_told = counting_told (data_frame e) _ _ (data_asks e) (data_plain e) (data_given e f)

        other_told : Told d f (sends_other e)
        unfolding sends_other
        other_told = counting_told (other_frame e) _ _ (other_asks e) (λ b c. other_plain e b) (other_given e f)

        continues_told : Told d f (continues e)
        unfolding continues
        continues_told =
            let ends = stops_told eto (omega arith) (omega arith) in
            chosen (Told d f) (eqb e.talker sending_data) _ _
            (λ t. chosen (Told d f) (ltb e.sent e.loadlength) _ _ (λ l. data_told) (λ l. ends))
            (λ t. chosen (Told d f) (ltb e.replied (other_length e)) _ _ (λ l. other_told) (λ l. ends))

  returned_told : (m : Message) → Told d f (returned d m)
  unfolding returned
  returned_told m =
      chosen (Told d f) _ _ _
      (λ e. chosen (Told d f) (eqb d.noted 1) _ _ (λ e. stops_told d eto (omega arith) (omega arith))
      (λ e. continues_told d (λ s. refl) (λ b. b) refl))
      (λ e. stops_told d ete (omega arith) (omega arith))

  heard_told : (m : Message) → Shows m → (m.kind ≡ end → Of End f) → d.talker ≤ addressed → Told d f (heard d m)
  unfolding heard
  heard_told m i k t =
      chosen (Told d f) (eqb d.listener 1) _ _
      (λ e. marks m i (λ q. (k q, t)) _ (inr refl) (λ s. absurd (omega arith)))
      (λ e. marks m i (λ q. (k q, t)) Nothing (inl refl) (λ s. refl))

  data_or_end_told : (m : Message) → Shows m → (m.kind ≡ end → Of End f) → Told d f (data_or_end d m)
  unfolding data_or_end
  data_or_end_told m i k =
      chosen (Told d f) (sending d) _ _ (λ e. returned_told m)
      (λ e. heard_told m i k (ltb-false addressed d.talker e))

-- ---- frames that go on unchanged where no rule says otherwise

module _ (d : Device) (f : ℕ) (q : ShowsService f → ⊥) where
  passes : (e : Device) → Left d e → Told d f (sends e f)
  passes e l =
      record {
        command = λ c. refl;
        unhanded = λ s b e. apart (λ z. omega arith);
        cleared = apart (λ e. omega arith);
        triggered = apart (λ e. omega arith);
        left = λ s. l;
        shown = λ b a s. absurd (q s);
        asked = λ b c e. absurd (q (inl (record { past = end_past f e })));
        given = λ b. record { command = λ c. refl; aad = λ e. e };
      }

  still : Told d f (sends d f)
  still = passes d (stays d d refl)

  -- a clear or a trigger
  events : (h : Handed) → (case h ≡ 3 → ⊥) → (h ≡ Clear → ClearDue d f) → (h ≡ Trigger → TriggerDue d f) →
      Told d f (reports d f h)
  events h z c t =
      record {
        command = λ c. refl;
        unhanded = λ s b e. apart z;
        cleared = c;
        triggered = t;
        left = λ s. stays d d refl;
        shown = λ b a s. absurd (q s);
        asked = λ b c e. absurd (q (inl (record { past = end_past f e })));
        given = λ b. record { command = λ c. refl; aad = λ e. e };
      }

  dcl_told : Of Dcl f → Told d f (reports d f Clear)
  dcl_told k = events Clear (λ z. omega arith) (λ h. inl k) (apart (λ e. omega arith))

  sdc_told : Of Sdc f → Told d f (to_listener d f Clear)
  unfolding to_listener
  sdc_told k =
      chosen (Told d f) (eqb d.listener 1) _ _
      (λ l. events Clear (λ z. omega arith) (λ h. inr (k, eqb-true _ _ l)) (apart (λ e. omega arith))) (λ l. still)

  get_told : Of Get f → Told d f (to_listener d f Trigger)
  unfolding to_listener
  get_told k =
      chosen (Told d f) (eqb d.listener 1) _ _
      (λ l. events Trigger (λ z. omega arith) (apart (λ e. omega arith)) (λ h. (k, eqb-true _ _ l))) (λ l. still)

  -- an address is taken, and the frame plus one goes on
  taken : (e : Device) → e.talker ≡ d.talker → 0x500 ≤ f → f < 0x5ff → (Of Aad (f + 1) → Of Aad f) →
      Told d f (sends e (f + 1))
  taken e t l h g =
      record {
        command = λ c. omega (arith, c.past);
        unhanded = λ s b e. apart (λ z. omega arith);
        cleared = apart (λ e. omega arith);
        triggered = apart (λ e. omega arith);
        left = λ s. stays d e t;
        shown = λ b a s. absurd (no_service (f + 1) (omega arith) (omega arith) s);
        asked = λ b c e. absurd (no_end (f + 1) (omega arith) e);
        given = λ b. record { command = λ c. omega (arith, c.past); aad = g };
      }

  aad_told : Of Aad f → (a : ℕ) → Told d f (aad d f a)
  unfolding aad
  aad_told k a =
      let w = aad_codes f k in
      chosen (Told d f) (eqb d.configured 0) _ _
      (λ c. chosen (Told d f) (has d auto_address) _ _ (λ h. taken _ refl (omega arith) (omega arith) (λ e. k))
      (λ h. still))
      (λ c. still)

  aes_told : Of Aes f → (a : ℕ) → Told d f (aes d f a)
  unfolding aes
  aes_told k a =
      let w = aes_codes f k in
      chosen (Told d f) (eqb d.configured 0) _ _
      (λ c. taken _ refl (omega arith) (omega arith) (λ e. omega (arith, (aad_codes (f + 1) e).1))) (λ c. still)

  module _ (n : IsCommand f → ⊥) where
    -- only an addressed device starts a reply, and that one is not sending
    starts : (able : Bool) (e : Device) → (OfBytes d → OfBytes e) → e.choice ≡ d.choice →
        Told d f (choose (eqb d.talker addressed) (choose able (continues e) (sends d f)) (sends d f))
    starts able e b c =
        chosen (Told d f) (eqb d.talker addressed) _ _
        (λ t. chosen (Told d f) able _ _
        (λ h. continues_told d f n e (λ s. omega (arith, eqb-true d.talker addressed t)) b c) (λ h. still))
        (λ t. still)

    requested_told : (ability state : ℕ) → Told d f (requested d f ability state)
    unfolding requested
    requested_told ability state =
        starts (has d ability) (talking d state) (kept d state) refl

    sst_told : Told d f (sst d f)
    unfolding sst
    sst_told =
        starts (has d status) (talking (polls d) sending_status)
        (λ b. kept (polls d) sending_status (polls_kept d b)) (polls_choice d)

  no_command : (k : ℕ) → outside 0x400 0x500 k ≡ true → kind_at f ≡ k → IsCommand f → ⊥
  no_command k o e c = elsewhere 0x400 0x500 f k c.first c.past o e

  -- whichever rule is selected
  simple_told : Told d f (takes_simple d f)
  unfolding takes_simple messages first_in first_of codes_in codes_of has_c1
  simple_told =
      selected (Told d f) (kind_at f) (rules d f (decoded f)) (sends d f) (λ u. still)
      (λ e. passes _ (lad_left d _))
      (λ e. passes _ (stays d _ refl))
      (λ e. passes _ (tad_left d _))
      (λ e. passes _ (zeroes d d idle))
      (λ e. passes _ (zeroes d (listening d 0) idle))
      (λ e. passes _ (aau_left d))
      (λ e. dcl_told e)
      (λ e. sdc_told e)
      (λ e. get_told e)
      (λ e. passes _ (stays d _ refl))
      (λ e. passes _ (stays d _ refl))
      (λ e. passes _ (llo_left d))
      (λ e. passes _ (gtl_left d))
      (λ e. passes _ (ppe_left d _))
      (λ e. passes _ (ppd_left d))
      (λ e. passes _ (stays d _ refl))
      (λ e. requested_told (no_command _ refl e) _ _)
      (λ e. sst_told (no_command _ refl e))
      (λ e. requested_told (no_command _ refl e) _ _)
      (λ e. requested_told (no_command _ refl e) _ _)
      (λ e. passes _ (nrd_left d))
      (λ e. aad_told e _)
      (λ e. data_or_end_told d f (no_command _ refl e) _ (shows f (ap has_c1 e)) (λ k. k))
      (λ e. data_or_end_told d f (no_command _ refl e) _ (shows f (ap has_c1 e)) (λ k. k))
      (λ e. marks d f (no_command _ refl e) _ (answers d (shows f (ap has_c1 e))) (λ k. absurd (omega (arith, e, k)))
      Nothing (inl refl) (λ s. refl))

-- what is told of a device without its flags is told of it with them
flags_told : (d : Device) (f : ℕ) {s : Sent} → Told (primary_idle d) f s → Told d f s
flags_told d f t =
    record {
      command = t.command;
      unhanded = t.unhanded;
      cleared = t.cleared;
      triggered = t.triggered;
      left = t.left;
      shown = λ b. t.shown (bytes b);
      asked = λ b. t.asked (bytes b);
      given = λ b. t.given (bytes b);
    }
  where
    bytes : OfBytes d → OfBytes (primary_idle d)
    bytes b = record { status = b.status; accessory = b.accessory; id = b.id; load = b.load }

module _ (d : Device) (f : ℕ) (q : ShowsService f → ⊥) where
  heeded_told : (k : ℕ) → Told d f (takes_simple (heeding d k) f)
  unfolding heeding
  heeded_told k =
      chosen (λ (x : Device). Told d f (takes_simple x f)) (command_kind k) (primary_idle d) d
      (λ c. flags_told d f (simple_told (primary_idle d) f q)) (λ c. simple_told d f q)

  extended_told : Told d f (takes_extended d f)
  unfolding takes_extended
  extended_told =
      selected (Told d f) (kind_at f) (extended_rules d f (decoded f)) (takes_simple (heeding d (kind_at f)) f)
      (λ u. heeded_told (kind_at f))
      (λ e. passes d f q _ (extended_lad_left d _))
      (λ e. passes d f q _ (extended_tad_left d _))
      (λ e. passes d f q _ (sad_left d _))
      (λ e. passes d f q _ (stays d _ refl))
      (λ e. still d f q)
      (λ e. aes_told d f q e _)
      (λ e. passes d f q _ (aep_left d _))

shows? : (f : ℕ) → Dec (ShowsService f)
shows? f = go (dec_lt f 0x400) (dec_lt f 0x600) (dec_lt f 0x800)
  where
    go : Dec (f < 0x400) → Dec (f < 0x600) → Dec (f < 0x800) → Dec (ShowsService f)
    go (yes h) b c = yes (inl (record { past = h }))
    go (no l) (yes h) c = no (no_service f (omega arith) h)
    go (no l) (no m) (yes h) = yes (inr (record { first = omega arith; past = h }))
    go (no l) (no m) (no h) = no (⊎_elim (λ i. l i.past) (λ i. h i.past))

pub told : (d : Device) (f : ℕ) → Told d f (takes d f)
told d f = go (shows? f)
  where
    go : Dec (ShowsService f) → Told d f (takes d f)
    go (yes (inl i)) =
        rw (data_frame_lem d f i.past) (data_or_end_told d f (λ c. omega arith) _ (data_shows f i.past) (λ k. k))
    go (yes (inr i)) =
        rw (idy_frame d f i.first i.past)
        (marks d f (λ c. omega arith) _ (answers d (idy_shows f i.first i.past))
        (λ k. absurd (omega (arith, idy_kind f i.first i.past, k))) Nothing (inl refl) (λ s. refl))
    go (no q) = by_variant (Told d f) d f (λ x. extended_told d f q) (λ x. simple_told d f q)
