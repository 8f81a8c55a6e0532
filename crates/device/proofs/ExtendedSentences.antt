-- The sentences of specs/ExtendedSentences.antt: each follows from the rule of its frames, and that all other frames
-- leave addresses and flags alone from what the simple rules leave (Untouched).
use Prim.Native.Nat.{ℕ, ◌+◌, ◌*◌, ◌/◌, ◌%◌, ◌<◌}
use mathlib.Core.Path.{◌≡◌, refl, sym, ap, ◌∙◌}
use mathlib.Core.Bool.{Bool, true, false}
use mathlib.Core.Logic.{◌⊎◌, inl, inr, ⊎_elim}
use native.Mathlib.Omega.{arith}
use lib.Dec.{eqb, ltb, leb}
use borrow.Author.Tests.{eqb-true, eq-eqb, ne_eqb, le-leb, lt-leb, lt-ltb, le-ltb, leb-true, leb-false}
use Rattle.frame.specs.declared.Kind.TheVariants.{Lad, Tad, Sad, Aau, Aad, Aes, Aep, Iep, Ies}
use Rattle.frame.specs.Messages.{kind_at}
use Rattle.frame.specs.Decoding.{decoded}
use Rattle.device.specs.Choose.{choose}
use Rattle.device.specs.Device.{listen, unaddress, idle, addressed, no_address, half_assigned, received, has, talks}
use Rattle.device.specs.Device.{fixed_second, present_second, listen_primary, talk_primary}
use Rattle.device.specs.Change.{talking, placed, flagging, seconding}
use Rattle.device.specs.Remote.{to_remote}
use Rattle.device.specs.Reply.{sends}
use Rattle.device.specs.Extended.{command_kind, primary_idle, heeding, extended_lad, extended_tad, sad_listens}
use Rattle.device.specs.Extended.{sad_talks}
use Rattle.device.specs.Extended.{sad, extended_aau, aes, aep}
use Rattle.device.specs.Take.{extended_rules, takes_simple, takes_extended, takes}
use Rattle.device.specs.Sentences.{Of}
use Rattle.device.specs.ExtendedSentences.{Simple, Extended, SimpleAlone, OwnLad, OwnTad, OwnSad, Flags}
use Rattle.device.specs.ExtendedSentences.{Remembers}
use Rattle.device.specs.ExtendedSentences.{SameRoles, BySecond, Assigned, PlaceKept}
use Rattle.device.specs.declared.Device.{Device}
use Rattle.device.specs.Sent.{Sent}
use Rattle.device.proofs.Chosen.{chosen, selected}
use Rattle.device.proofs.Classes.{aes_address}
use Rattle.device.proofs.Untouched.{Plain, NotFlag, plain_place, untouched_simple}
use Rattle.device.proofs.Untouched.{extended_lad_same, extended_tad_same, sad_listens_same, sad_talks_same}
use Rattle.device.proofs.Untouched.{sad_same as left-sad}

-- ---- a simple device

pub simple_rules : (d : Device) (f : ℕ) → Simple d → takes d f ≡ takes_simple d f
unfolding takes choose
simple_rules d f x = rw x

passes : (d : Device) (f : ℕ) → Simple d → Of Sad f ⊎ (Of Aes f ⊎ Of Aep f) → takes d f ≡ sends d f
unfolding takes_simple choose
passes d f x (inl e) = simple_rules d f x ∙ rw e
passes d f x (inr (inl e)) = simple_rules d f x ∙ rw e
passes d f x (inr (inr e)) = simple_rules d f x ∙ rw e

pub simple_alone : SimpleAlone
simple_alone = record { rules = simple_rules; passes = passes }

-- ---- an extended device's own rules

module _ (d : Device) (f : ℕ) (x : Extended d) where
  pub own : takes d f ≡ takes_extended d f
  unfolding takes choose
  own = rw x

  lad_own : Of Lad f → takes d f ≡ sends (extended_lad d (decoded f).offset) f
  unfolding takes_extended choose
  lad_own e = own ∙ rw e

  tad_own : Of Tad f → takes d f ≡ sends (extended_tad d (decoded f).offset) f
  unfolding takes_extended choose
  tad_own e = own ∙ rw e

  sad_own : Of Sad f → takes d f ≡ sends (sad d (decoded f).offset) f
  unfolding takes_extended choose
  sad_own e = own ∙ rw e

  aau_own : Of Aau f → takes d f ≡ sends (extended_aau d) f
  unfolding takes_extended choose
  aau_own e = own ∙ rw e

  aad_own : Of Aad f → takes d f ≡ sends d f
  unfolding takes_extended choose
  aad_own e = own ∙ rw e

  aes_own : Of Aes f → takes d f ≡ aes d f (decoded f).offset
  unfolding takes_extended choose
  aes_own e = own ∙ rw e

  aep_own : Of Aep f → takes d f ≡ sends (aep d (decoded f).offset) f
  unfolding takes_extended choose
  aep_own e = own ∙ rw e

  iep_own : Of Iep f → takes d f ≡ sends d f
  unfolding takes_extended takes_simple heeding choose
  iep_own e = own ∙ rw e

  ies_own : Of Ies f → takes d f ≡ sends d f
  unfolding takes_extended takes_simple heeding choose
  ies_own e = own ∙ rw e

-- ---- flags

module _ (x : ℕ) where
  flag_set : leb received (x % received + received) ≡ true
  flag_set = le-leb received (x % received + received) (omega arith)

  flag_clear : leb received (x % received + 0) ≡ false
  flag_clear = lt-leb received (x % received + 0) (omega arith)

  -- the flag is as it was where a second address is put behind it
  flag_kept : (a : ℕ) → a < received → leb received ((x / received) * received + a) ≡ leb received x
  flag_kept a h = go (leb received x) refl
    where
      y : ℕ
      y = (x / received) * received + a

      go : (b : Bool) → leb received x ≡ b → leb received y ≡ b
      go true e = le-leb received y (omega (arith, leb-true received x e))
      go false e = lt-leb received y (omega (arith, leb-false received x e))

-- a device with bytes 20 and 21 of another has its flags
abbrev seconds : Device → ℕ × ℕ
seconds d = (d.fixedsecond, d.second)

flags_of : (d e : Device) (l t : Bool) → seconds e ≡ seconds d → Flags d l t → Flags e l t
flags_of d e l t q h =
    record {
      listen = ap (λ (p : ℕ × ℕ). leb received p.0) q ∙ h.listen;
      talk = ap (λ (p : ℕ × ℕ). leb received p.1) q ∙ h.talk;
    }

same_flags : (d e : Device) → seconds e ≡ seconds d → Flags e (listen_primary d) (talk_primary d)
same_flags d e q = flags_of d e _ _ q (record { listen = refl; talk = refl })

no_flags : (d e : Device) → seconds e ≡ seconds (primary_idle d) → Flags e false false
no_flags d e q =
    flags_of (primary_idle d) e _ _ q
    (record { listen = flag_clear d.fixedsecond; talk = flag_clear d.second })

seconds_plain : Plain seconds
seconds_plain = plain_place (λ a c x y. (x, y))

-- no simple rule changes these bytes
simple_seconds : (d : Device) (f : ℕ) → seconds (takes_simple d f).device ≡ seconds d
simple_seconds d f =
    untouched_simple seconds seconds_plain d f
    (λ r. record { remoting = λ d x. refl; enabling = λ d x. refl }) (λ a d x. refl) (λ p d x y. refl)

listens_seconds : (d : Device) → seconds (sad_listens d) ≡ seconds d
listens_seconds d = sad_listens_same seconds seconds_plain d

sad_seconds : (d : Device) → seconds (sad_talks (sad_listens d)) ≡ seconds d
sad_seconds d = sad_talks_same seconds seconds_plain d (sad_listens d) (listens_seconds d)

lad_flags : (d : Device) (a : ℕ) → a ≡ d.address → has d listen ≡ true →
    extended_lad d a ≡ flagging (to_remote d) received 0
unfolding extended_lad choose
lad_flags d a e h = rw (eq-eqb a d.address e, h)

tad_flags : (d : Device) (a : ℕ) → a ≡ d.address → talks d ≡ true → extended_tad d a ≡ flagging d 0 received
unfolding extended_tad choose
tad_flags d a e h = rw (eq-eqb a d.address e, h)

sad_same : (d : Device) (a : ℕ) → a ≡ present_second d → sad d a ≡ sad_talks (sad_listens d)
unfolding sad choose
sad_same d a e = rw (eq-eqb a (present_second d) e)

sad_other : (d : Device) (a : ℕ) → (a ≡ present_second d → ⊥) →
    sad d a ≡ choose (talk_primary d) (talking (primary_idle d) idle) (primary_idle d)
unfolding sad choose
sad_other d a n = rw (ne_eqb a (present_second d) n)

-- where a kind is none of the commands
no : {P : Type 0} (k : ℕ) {n : ℕ} (b : Bool) → command_kind n ≡ b → n ≡ k → (command_kind k ≡ b → ⊥) → P
no k b c e x = absurd (x (ap command_kind (sym e) ∙ c))

differ : true ≡ false → ⊥
differ e = let z : ◌≡◌ {A = ℕ} 0 1 = cc in omega arith

module _ (d : Device) (f : ℕ) (x : Extended d) where
  -- another's LAD, TAD and SAD
  lad_forgets : (OwnLad d f → ⊥) → Of Lad f → Flags (extended_lad d (decoded f).offset) false false
  unfolding extended_lad
  lad_forgets n e =
      chosen (λ (c : Device). Flags c false false) (eqb (decoded f).offset d.address) _ _
      (λ a. chosen (λ (c : Device). Flags c false false) (has d listen) _ _
      (λ h. absurd (n (e, (eqb-true _ _ a, h)))) (λ h. no_flags d _ refl))
      (λ a. no_flags d _ refl)

  tad_forgets : (OwnTad d f → ⊥) → Of Tad f → Flags (extended_tad d (decoded f).offset) false false
  unfolding extended_tad
  tad_forgets n e =
      chosen (λ (c : Device). Flags c false false) (eqb (decoded f).offset d.address) _ _
      (λ a. chosen (λ (c : Device). Flags c false false) (talks d) _ _
      (λ h. absurd (n (e, (eqb-true _ _ a, h)))) (λ h. no_flags d _ refl))
      (λ a. no_flags d _ refl)

  sad_forgets : (OwnSad d f → ⊥) → Of Sad f → Flags (sad d (decoded f).offset) false false
  sad_forgets n e =
      rw (sad_other d (decoded f).offset (λ a. n (e, a)))
      (chosen (λ (c : Device). Flags c false false) (talk_primary d) _ _ (λ t. no_flags d _ refl)
      (λ t. no_flags d _ refl))

  aau_forgets : Flags (extended_aau d) false false
  aau_forgets =
      record {
        listen = flag_clear d.fixedsecond;
        talk = lt-leb received (((present_second d + 0) / received) * received + fixed_second d) (omega arith);
      }

  heeded_forgets : command_kind (kind_at f) ≡ true → Flags (takes_simple (heeding d (kind_at f)) f).device false false
  unfolding heeding choose
  heeded_forgets c = rw c (no_flags d _ (simple_seconds (primary_idle d) f))

  forgets : command_kind (kind_at f) ≡ true → (OwnLad d f ⊎ (OwnTad d f ⊎ OwnSad d f) → ⊥) →
      Flags (takes d f).device false false
  unfolding takes_extended
  forgets c n =
      rw (own d f x)
      (selected (λ (s : Sent). Flags s.device false false) (kind_at f) (extended_rules d f (decoded f))
      (takes_simple (heeding d (kind_at f)) f)
      (λ u. heeded_forgets c)
      (λ e. lad_forgets (λ o. n (inl o)) e)
      (λ e. tad_forgets (λ o. n (inr (inl o))) e)
      (λ e. sad_forgets (λ o. n (inr (inr o))) e)
      (λ e. aau_forgets)
      (λ e. no _ true c e (λ z. differ (sym z)))
      (λ e. no _ true c e (λ z. differ (sym z)))
      (λ e. no _ true c e (λ z. differ (sym z))))

  -- ready frames, data and end, identify, and kind 0
  aes_keeps : Of Aes f → Flags (aes d f (decoded f).offset).device (listen_primary d) (talk_primary d)
  unfolding aes
  aes_keeps e =
      let a = aes_address f e in
      chosen (λ (s : Sent). Flags s.device (listen_primary d) (talk_primary d)) (eqb d.configured 0) _ _
      (λ c. record { listen = refl; talk = flag_kept d.second (decoded f).offset (omega arith) })
      (λ c. same_flags d _ refl)

  aep_keeps : Flags (aep d (decoded f).offset) (listen_primary d) (talk_primary d)
  unfolding aep
  aep_keeps =
      chosen (λ (c : Device). Flags c (listen_primary d) (talk_primary d)) (eqb d.configured half_assigned) _ d
      (λ c. chosen (λ (c : Device). Flags c (listen_primary d) (talk_primary d)) (ltb (present_second d) no_address) _ d
      (λ l. same_flags d _ refl) (λ l. same_flags d _ refl))
      (λ c. same_flags d _ refl)

  heeded_keeps : command_kind (kind_at f) ≡ false →
      Flags (takes_simple (heeding d (kind_at f)) f).device (listen_primary d) (talk_primary d)
  unfolding heeding choose
  heeded_keeps c = rw c (same_flags d _ (simple_seconds d f))

  keeps : command_kind (kind_at f) ≡ false → Flags (takes d f).device (listen_primary d) (talk_primary d)
  unfolding takes_extended
  keeps c =
      rw (own d f x)
      (selected (λ (s : Sent). Flags s.device (listen_primary d) (talk_primary d)) (kind_at f)
      (extended_rules d f (decoded f)) (takes_simple (heeding d (kind_at f)) f)
      (λ u. heeded_keeps c)
      (λ e. no _ false c e differ)
      (λ e. no _ false c e differ)
      (λ e. no _ false c e differ)
      (λ e. no _ false c e differ)
      (λ e. same_flags d _ refl)
      (λ e. aes_keeps e)
      (λ e. aep_keeps))

pub remembers : Remembers
remembers =
    record {
      own_lad = λ d f x o.
          rw (lad_own d f x o.0, lad_flags d (decoded f).offset o.1.0 o.1.1)
          (record { listen = flag_set (to_remote d).fixedsecond; talk = flag_clear (to_remote d).second });
      own_lad_remote = λ d f x o.
          rw (lad_own d f x o.0, lad_flags d (decoded f).offset o.1.0 o.1.1);
      own_tad = λ d f x o.
          rw (tad_own d f x o.0, tad_flags d (decoded f).offset o.1.0 o.1.1)
          (record { listen = flag_clear d.fixedsecond; talk = flag_set d.second });
      own_sad = λ d f x o.
          rw (sad_own d f x o.0, sad_same d (decoded f).offset o.1) (same_flags d _ (sad_seconds d));
      other_command = forgets;
      no_command = keeps;
    }

-- ---- SAD

module _ (d : Device) where
  unheard : listen_primary d ≡ false → sad_listens d ≡ d
  unfolding sad_listens choose
  unheard l = rw l

  untalked : talk_primary d ≡ false → sad_talks d ≡ d
  unfolding sad_talks choose
  untalked t = rw t

  remote_roles : SameRoles d (flagging (to_remote d) received 0)
  unfolding to_remote
  remote_roles =
      chosen (λ (c : Device). SameRoles d (flagging c received 0)) (eqb d.enabled 1) _ d
      (λ e. record { listener = refl; talker = refl }) (λ e. record { listener = refl; talker = refl })

  other_roles : talk_primary d ≡ false →
      SameRoles d (choose (talk_primary d) (talking (primary_idle d) idle) (primary_idle d))
  unfolding choose
  other_roles t = rw t (record { listener = refl; talker = refl })

  no_roles : (a : ℕ) → Flags d false false → SameRoles d (sad d a)
  unfolding sad
  no_roles a h =
      chosen (SameRoles d) (eqb a (present_second d)) _ _
      (λ e. rw (unheard h.listen, untalked h.talk) (record { listener = refl; talker = refl }))
      (λ e. other_roles h.talk)

  falls_idle : (a : ℕ) → talk_primary d ≡ true → (a ≡ present_second d → ⊥) → (sad d a).talker ≡ idle
  unfolding sad choose
  falls_idle a t n = rw (ne_eqb a (present_second d) n, t)

deaf : (d : Device) → has d listen ≡ false → sad_listens d ≡ d
unfolding sad_listens choose
deaf d h = rw h (chosen (λ (e : Device). e ≡ d) (listen_primary d) d d (λ l. refl) (λ l. refl))

mute : (d : Device) → talks d ≡ false → sad_talks d ≡ d
unfolding sad_talks choose
mute d h = rw h (chosen (λ (e : Device). e ≡ d) (talk_primary d) d d (λ l. refl) (λ l. refl))

heard : (d : Device) → Flags d true false → has d listen ≡ true → (sad_talks (sad_listens d)).listener ≡ 1
unfolding sad_listens choose
heard d f h =
    ap (λ (e : Device). e.listener)
    (untalked (sad_listens d) (ap (λ (p : ℕ × ℕ). leb received p.1) (listens_seconds d) ∙ f.talk))
    ∙ rw (f.listen, h) (chosen (λ (e : Device). e.listener ≡ 1) (has d unaddress) _ _ (λ u. refl) (λ u. refl))

talked : (d : Device) → Flags d false true → talks d ≡ true → (sad_talks (sad_listens d)).talker ≡ addressed
unfolding sad_talks choose
talked d f h =
    ap (λ (e : Device). (sad_talks e).talker) (unheard d f.listen)
    ∙ rw (f.talk, h) (chosen (λ (e : Device). e.talker ≡ addressed) (has d unaddress) _ _ (λ u. refl) (λ u. refl))

unable_roles : (d : Device) → has d listen ≡ false → talks d ≡ false → SameRoles d (sad_talks (sad_listens d))
unable_roles d l t = rw (deaf d l, mute d t) (record { listener = refl; talker = refl })

pub by_second : BySecond
by_second =
    record {
      to_listener = λ d f x g h o. rw (sad_own d f x o.0, sad_same d (decoded f).offset o.1) (heard d g h);
      to_talker = λ d f x g h o. rw (sad_own d f x o.0, sad_same d (decoded f).offset o.1) (talked d g h);
      no_primary = λ d f x h e. rw (sad_own d f x e) (no_roles d (decoded f).offset h);
      other_second = λ d f x t e n. rw (sad_own d f x e) (falls_idle d (decoded f).offset t n);
      other_untalked = λ d f x t e n. rw (sad_own d f x e, sad_other d (decoded f).offset n) (other_roles d t);
      unable = λ d f x l t e o. rw (sad_own d f x e, sad_same d (decoded f).offset o) (unable_roles d l t);
      primary_alone = λ d f x. ⊎_elim
          (λ (o : OwnLad d f). rw (lad_own d f x o.0, lad_flags d (decoded f).offset o.1.0 o.1.1)
          (remote_roles d))
          (λ (o : OwnTad d f). rw (tad_own d f x o.0, tad_flags d (decoded f).offset o.1.0 o.1.1)
          (record { listener = refl; talker = refl }));
    }

-- ---- AES, AEP and AAU

module _ (d : Device) where
  aes_taken : (f a : ℕ) → d.configured ≡ 0 →
      aes d f a ≡ sends (placed (seconding d a) d.address half_assigned) (f + 1)
  unfolding aes choose
  aes_taken f a c = rw (eq-eqb d.configured 0 c)

  aes_passed : (f a : ℕ) → (d.configured ≡ 0 → ⊥) → aes d f a ≡ sends d f
  unfolding aes choose
  aes_passed f a n = rw (ne_eqb d.configured 0 n)

  aep_taken : (a : ℕ) → d.configured ≡ half_assigned → (present_second d ≡ no_address → ⊥) → aep d a ≡ placed d a 1
  unfolding aep choose
  aep_taken a c n =
      rw (eq-eqb d.configured half_assigned c, lt-ltb (present_second d) no_address (omega arith))

  aep_passed : (a : ℕ) → (d.configured ≡ half_assigned → ⊥) → aep d a ≡ d
  unfolding aep choose
  aep_passed a n = rw (ne_eqb d.configured half_assigned n)

  aep_illegal : (a : ℕ) → present_second d ≡ no_address → aep d a ≡ d
  unfolding aep choose
  aep_illegal a n =
      rw (le-ltb (present_second d) no_address (omega arith))
      (chosen (λ (c : Device). c ≡ d) (eqb d.configured half_assigned) d d (λ e. refl) (λ e. refl))

pub assigned : Assigned
assigned =
    record {
      aes = λ d f x c e.
          let a = aes_address f e in
          rw (aes_own d f x e, aes_taken d f (decoded f).offset c)
          (omega arith, refl, refl, refl, record { listener = refl; talker = refl });
      aes_once = λ d f x n e. aes_own d f x e ∙ aes_passed d f (decoded f).offset n;
      aep = λ d f x c n e.
          rw (aep_own d f x e, aep_taken d (decoded f).offset c n)
          (refl, refl, refl, refl, record { listener = refl; talker = refl });
      aep_half = λ d f x n e.
          aep_own d f x e ∙ ap (λ (c : Device). sends c f) (aep_passed d (decoded f).offset n);
      aep_legal = λ d f x n e.
          aep_own d f x e ∙ ap (λ (c : Device). sends c f) (aep_illegal d (decoded f).offset n);
      aau = λ d f x e.
          rw (aau_own d f x e) (refl, omega arith, refl, record { listener = refl; talker = refl });
      others = λ d f x. ⊎_elim (aad_own d f x) (⊎_elim (iep_own d f x) (ies_own d f x));
    }

-- ---- all else

abbrev place : Device → ℕ × ℕ × ℕ
place d = (d.address, present_second d, d.configured)

place_plain : Plain place
place_plain = plain_place (λ a c x y. (a, y % received, c))

place_flags : NotFlag place
place_flags =
    record {
      neither = λ d. ap (λ (s : ℕ). (d.address, s, d.configured)) (behind d.second);
      listen = λ d. ap (λ (s : ℕ). (d.address, s, d.configured)) (behind d.second);
      talk = λ d. ap (λ (s : ℕ). (d.address, s, d.configured)) (behind_flag d.second);
    }
  where
    behind : (y : ℕ) → (y % received + 0) % received ≡ y % received
    behind y = omega arith

    behind_flag : (y : ℕ) → (y % received + received) % received ≡ y % received
    behind_flag y = omega arith

module _ (d : Device) (f : ℕ) (x : Extended d) where
  abbrev InPlace : Sent → Type 0
  InPlace s = place s.device ≡ place d

  heeded_place : (Of Aau f ⊎ Of Aad f → ⊥) → InPlace (takes_simple (heeding d (kind_at f)) f)
  unfolding heeding
  heeded_place n =
      chosen (λ (c : Device). InPlace (takes_simple c f)) (command_kind (kind_at f)) (primary_idle d) d
      (λ c. simply (primary_idle d) ∙ place_flags.neither d) (λ c. simply d)
    where
      simply : (e : Device) → place (takes_simple e f).device ≡ place e
      simply e =
          untouched_simple place place_plain e f (λ r. record { remoting = λ d x. refl; enabling = λ d x. refl })
          (λ a d x. refl) (λ p. absurd (n p))

  in_place : (Of Aes f ⊎ (Of Aep f ⊎ Of Aau f) → ⊥) → InPlace (takes d f)
  unfolding takes_extended
  in_place n =
      rw (own d f x)
      (selected InPlace (kind_at f) (extended_rules d f (decoded f)) (takes_simple (heeding d (kind_at f)) f)
      (λ u. heeded_place (⊎_elim u.1.1.1.0 u.1.1.1.1.0))
      (λ e. extended_lad_same place place_plain place_flags d _
      (record { remoting = λ d x. refl; enabling = λ d x. refl }))
      (λ e. extended_tad_same place place_plain place_flags d _)
      (λ e. left-sad place place_plain place_flags d _)
      (λ e. absurd (n (inr (inr e))))
      (λ e. refl)
      (λ e. absurd (n (inl e)))
      (λ e. absurd (n (inr (inl e)))))

pub place_kept : PlaceKept
place_kept d f x n =
    let e = in_place d f x n in
    record {
      address = ap (λ (p : ℕ × ℕ × ℕ). p.0) e;
      second = ap (λ (p : ℕ × ℕ × ℕ). p.1) e;
      configured = ap (λ (p : ℕ × ℕ × ℕ). p.2) e;
    }
