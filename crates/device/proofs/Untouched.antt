-- A value, or several, that the changes made by a frame's rule leave alone is left by the frame: the rules are gone
-- through once, for any such value.
use Prim.Native.Nat.{ℕ}
use mathlib.Core.Path.{◌≡◌, refl, ◌∙◌}
use mathlib.Core.Logic.{◌⊎◌, inl, inr}
use mathlib.Core.Bool.{Bool}
use lib.Dec.{eqb, ltb}
use Rattle.frame.specs.declared.Kind.TheVariants.{Aau, Aad}
use Rattle.frame.specs.Messages.{kind_at}
use Rattle.frame.specs.Decoding.{decoded}
use Rattle.frame.specs.declared.Message.{Message}
use Rattle.device.specs.Choose.{choose}
use Rattle.device.specs.Device.{listen, status, auto_address, unaddress, addressed, sending_data}
use Rattle.device.specs.Device.{sending_status, asking, no_address, half_assigned, received, parallel_poll, has}
use Rattle.device.specs.Device.{has_further, talks, present_second, listen_primary, talk_primary, sending}
use Rattle.device.specs.Change.{listening, talking, placed, serving, noting, counting, remoting, enabling}
use Rattle.device.specs.Change.{assigning, flagging, seconding}
use Rattle.device.specs.Remote.{nre, to_remote, llo, gtl}
use Rattle.device.specs.Poll.{ppe, ppd}
use Rattle.device.specs.Commands.{lad, tad, aau}
use Rattle.device.specs.Clear.{to_listener}
use Rattle.device.specs.Reply.{sends, other_length, sends_data, sends_other, continues}
use Rattle.device.specs.Ready.{requested, polls, sst, nrd, aad}
use Rattle.device.specs.Data.{returned, heard, data_or_end}
use Rattle.device.specs.Extended.{command_kind, primary_idle, heeding, extended_lad, extended_tad, sad_listens}
use Rattle.device.specs.Extended.{sad_talks, sad, aes, aep}
use Rattle.device.specs.Take.{rules, extended_rules, takes_simple, takes_extended, takes}
use Rattle.device.specs.Sentences.{Of, MovesRemote}
use Rattle.device.specs.PollSentences.{Assigns}
use Rattle.device.specs.declared.Device.{Device}
use Rattle.device.specs.declared.Handed.{Handed}
use Rattle.device.specs.Sent.{Sent}
use Rattle.device.proofs.Chosen.{chosen, selected, by_variant}

-- the value v is none of roles, service and what a reply counts
pub record Plain {A : Type 0} (v : Device → A) : Type 0 where
  pub listening : (d : Device) (x : ℕ) → v (listening d x) ≡ v d
  pub talking : (d : Device) (x : ℕ) → v (talking d x) ≡ v d
  pub serving : (d : Device) (x : ℕ) → v (serving d x) ≡ v d
  pub noting : (d : Device) → v (noting d) ≡ v d
  pub counting : (d : Device) (x y z : ℕ) → v (counting d x y z) ≡ v d

-- it is not the address or whether that is configured
abbrev pub NotPlaced : {A : Type 0} → (Device → A) → Type 0
NotPlaced v = (d : Device) (x y : ℕ) → v (placed d x y) ≡ v d

-- nor a flag in front of a second address
pub record NotFlag {A : Type 0} (v : Device → A) : Type 0 where
  pub neither : (d : Device) → v (flagging d 0 0) ≡ v d
  pub listen : (d : Device) → v (flagging d received 0) ≡ v d
  pub talk : (d : Device) → v (flagging d 0 received) ≡ v d

-- nor any of these, nor the second address
pub record Apart {A : Type 0} (v : Device → A) : Type 0 where
  pub placed : NotPlaced v
  pub flags : NotFlag v
  pub seconding : (d : Device) (a : ℕ) → v (seconding d a) ≡ v d

-- whatever is made of these is plain
pub plain : {A : Type 0} (g : (remote enabled assigned pollstatus further : ℕ) → A) →
    Plain (λ (d : Device). g d.remote d.enabled d.assigned d.pollstatus d.further)
plain g =
    record {
      listening = λ d x. refl;
      talking = λ d x. refl;
      serving = λ d x. refl;
      noting = λ d. refl;
      counting = λ d x y z. refl;
    }

-- and none of these is an address or a flag in front of one
pub apart : {A : Type 0} (g : (remote enabled assigned pollstatus further : ℕ) → A) →
    Apart (λ (d : Device). g d.remote d.enabled d.assigned d.pollstatus d.further)
apart g =
    record {
      placed = λ d x y. refl;
      flags = record { neither = λ d. refl; listen = λ d. refl; talk = λ d. refl };
      seconding = λ d a. refl;
    }

-- nor are addresses and flags any of the former
pub plain_place : {A : Type 0} (g : (address configured fixedsecond second : ℕ) → A) →
    Plain (λ (d : Device). g d.address d.configured d.fixedsecond d.second)
plain_place g =
    record {
      listening = λ d x. refl;
      talking = λ d x. refl;
      serving = λ d x. refl;
      noting = λ d. refl;
      counting = λ d x y z. refl;
    }

-- it is neither the state of remote and local nor the flag
pub record NotRemote {A : Type 0} (v : Device → A) : Type 0 where
  pub remoting : (d : Device) (x : ℕ) → v (remoting d x) ≡ v d
  pub enabling : (d : Device) (x : ℕ) → v (enabling d x) ≡ v d

-- the messages by which a simple device is placed
abbrev pub Places : ℕ → Type 0
Places f = Of Aau f ⊎ Of Aad f

-- it is not the sense and bit of a poll
abbrev pub NotAssigned : {A : Type 0} → (Device → A) → Type 0
NotAssigned v = (d : Device) (x : ℕ) → v (assigning d x) ≡ v d

module _ {A : Type 0} (v : Device → A) (p : Plain v) (d : Device) where
  -- e, and what s leaves, have d's value
  abbrev Same : Device → Type 0
  Same e = v e ≡ v d

  abbrev Leaves : Sent → Type 0
  Leaves s = Same s.device

  -- ---- commands

  tad_same : (a : ℕ) → Same (tad d a)
  unfolding tad
  tad_same a =
      chosen Same (eqb a d.address) _ _
      (λ e. chosen Same (talks d) _ _
      (λ h. chosen Same (has d unaddress) _ _ (λ u. p.talking _ _ ∙ p.listening _ _) (λ u. p.talking _ _))
      (λ h. p.talking _ _))
      (λ e. p.talking _ _)

  aau_same : NotPlaced v → Same (aau d)
  unfolding aau
  aau_same n = chosen Same (has d auto_address) _ d (λ h. n _ _ _) (λ h. refl)

  listener_leaves : (f : ℕ) (h : Handed) → Leaves (to_listener d f h)
  unfolding to_listener
  listener_leaves f h = chosen Leaves (eqb d.listener 1) _ _ (λ e. refl) (λ e. refl)

  module _ (r : NotRemote v) where
    remote_same : Same (to_remote d)
    unfolding to_remote
    remote_same = chosen Same (eqb d.enabled 1) _ d (λ e. r.remoting _ _) (λ e. refl)

    lad_same : (a : ℕ) → Same (lad d a)
    unfolding lad
    lad_same a =
        chosen Same (eqb a d.address) _ d
        (λ e. chosen Same (has d listen) _ d
        (λ h. chosen Same (has d unaddress) _ _ (λ u. p.talking _ _ ∙ p.listening _ _ ∙ remote_same)
        (λ u. p.listening _ _ ∙ remote_same))
        (λ h. refl))
        (λ e. refl)

    nre_same : Same (nre d)
    nre_same = r.enabling _ _ ∙ r.remoting _ _

    llo_same : Same (llo d)
    unfolding llo
    llo_same = chosen Same (eqb d.enabled 1) _ d (λ e. r.remoting _ _) (λ e. refl)

    gtl_same : Same (gtl d)
    unfolding gtl
    gtl_same = chosen Same (eqb d.listener 1) _ d (λ e. r.remoting _ _) (λ e. refl)

  module _ (n : NotAssigned v) where
    ppe_same : (s : ℕ) → Same (ppe d s)
    unfolding ppe
    ppe_same s =
        chosen Same (eqb d.listener 1) _ d
        (λ e. chosen Same (has_further d parallel_poll) _ d (λ h. n _ _) (λ h. refl)) (λ e. refl)

    ppd_same : Same (ppd d)
    unfolding ppd
    ppd_same = chosen Same (eqb d.listener 1) _ d (λ e. n _ _) (λ e. refl)

  -- ---- ready frames, data and end

  continues_leaves : (e : Device) → Same e → Leaves (continues e)
  unfolding continues sends_data sends_other
  continues_leaves e q =
      chosen Leaves (eqb e.talker sending_data) _ _
      (λ t. chosen Leaves (ltb e.sent e.loadlength) _ _ (λ l. p.counting _ _ _ _ ∙ q) (λ l. p.talking _ _ ∙ q))
      (λ t. chosen Leaves (ltb e.replied (other_length e)) _ _ (λ l. p.counting _ _ _ _ ∙ q)
      (λ l. p.talking _ _ ∙ q))

  -- a reply starts, or the frame goes on
  starts : (f : ℕ) (able : Bool) (e : Device) → Same e →
      Leaves (choose (eqb d.talker addressed) (choose able (continues e) (sends d f)) (sends d f))
  starts f able e q =
      chosen Leaves (eqb d.talker addressed) _ _
      (λ t. chosen Leaves able _ _ (λ h. continues_leaves e q) (λ h. refl)) (λ t. refl)

  requested_leaves : (f ability state : ℕ) → Leaves (requested d f ability state)
  unfolding requested
  requested_leaves f ability state = starts f (has d ability) (talking d state) (p.talking _ _)

  polls_same : Same (polls d)
  unfolding polls
  polls_same = chosen Same (eqb d.service asking) _ d (λ e. p.serving _ _) (λ e. refl)

  sst_leaves : (f : ℕ) → Leaves (sst d f)
  unfolding sst
  sst_leaves f = starts f (has d status) (talking (polls d) sending_status) (p.talking _ _ ∙ polls_same)

  nrd_same : Same (nrd d)
  unfolding nrd
  nrd_same = chosen Same (sending d) _ d (λ e. p.noting _) (λ e. refl)

  aad_leaves : NotPlaced v → (f a : ℕ) → Leaves (aad d f a)
  unfolding aad
  aad_leaves n f a =
      chosen Leaves (eqb d.configured 0) _ _
      (λ e. chosen Leaves (has d auto_address) _ _ (λ h. n _ _ _) (λ h. refl)) (λ e. refl)

  data_leaves : (m : Message) → Leaves (data_or_end d m)
  unfolding data_or_end returned heard
  data_leaves m =
      chosen Leaves (sending d) _ _
      (λ e. chosen Leaves _ _ _
      (λ g. chosen Leaves (eqb d.noted 1) _ _ (λ n. p.talking _ _) (λ n. continues_leaves d refl))
      (λ g. p.talking _ _))
      (λ e. chosen Leaves (eqb d.listener 1) _ _ (λ l. refl) (λ l. refl))

  -- whichever rule is selected, if the value is not what the frame's own rule is for
  pub untouched_simple : (f : ℕ) → (MovesRemote f → NotRemote v) → (Assigns f → NotAssigned v) →
      (Places f → NotPlaced v) → Leaves (takes_simple d f)
  unfolding takes_simple
  untouched_simple f r n a =
      selected Leaves (kind_at f) (rules d f (decoded f)) (sends d f) (λ u. refl)
      (λ e. lad_same (r (inr (inr (inl e)))) _)
      (λ e. p.listening _ _)
      (λ e. tad_same _)
      (λ e. p.talking _ _)
      (λ e. p.talking _ _ ∙ p.listening _ _)
      (λ e. aau_same (a (inl e)))
      (λ e. refl)
      (λ e. listener_leaves f _)
      (λ e. listener_leaves f _)
      (λ e. (r (inl e)).enabling _ _)
      (λ e. nre_same (r (inr (inl e))))
      (λ e. llo_same (r (inr (inr (inr (inl e))))))
      (λ e. gtl_same (r (inr (inr (inr (inr e))))))
      (λ e. ppe_same (n (inl e)) _)
      (λ e. ppd_same (n (inr (inl e))))
      (λ e. n (inr (inr e)) _ _)
      (λ e. requested_leaves f _ _)
      (λ e. sst_leaves f)
      (λ e. requested_leaves f _ _)
      (λ e. requested_leaves f _ _)
      (λ e. nrd_same)
      (λ e. aad_leaves (a (inr e)) f _)
      (λ e. data_leaves _)
      (λ e. data_leaves _)
      (λ e. refl)

-- ---- an extended device's own rules

module _ {A : Type 0} (v : Device → A) (p : Plain v) (d : Device) where
  pub sad_listens_same : Same v p d (sad_listens d)
  unfolding sad_listens
  sad_listens_same =
      chosen (Same v p d) (listen_primary d) _ d
      (λ l. chosen (Same v p d) (has d listen) _ d
      (λ h. chosen (Same v p d) (has d unaddress) _ _ (λ u. p.talking _ _ ∙ p.listening _ _) (λ u. p.listening _ _))
      (λ h. refl))
      (λ l. refl)

  pub sad_talks_same : (e : Device) → Same v p d e → Same v p d (sad_talks e)
  unfolding sad_talks
  sad_talks_same e q =
      chosen (Same v p d) (talk_primary e) _ e
      (λ t. chosen (Same v p d) (talks e) _ e
      (λ h. chosen (Same v p d) (has e unaddress) _ _ (λ u. p.talking _ _ ∙ p.listening _ _ ∙ q)
      (λ u. p.talking _ _ ∙ q))
      (λ h. q))
      (λ t. q)

module _ {A : Type 0} (v : Device → A) (p : Plain v) (n : NotFlag v) (d : Device) where
  lost_same : Same v p d (primary_idle d)
  lost_same = n.neither _

  pub extended_lad_same : (a : ℕ) → NotRemote v → Same v p d (extended_lad d a)
  unfolding extended_lad
  extended_lad_same a r =
      chosen (Same v p d) (eqb a d.address) _ _
      (λ e. chosen (Same v p d) (has d listen) _ _ (λ h. n.listen _ ∙ remote_same v p d r) (λ h. lost_same))
      (λ e. lost_same)

  pub extended_tad_same : (a : ℕ) → Same v p d (extended_tad d a)
  unfolding extended_tad
  extended_tad_same a =
      chosen (Same v p d) (eqb a d.address) _ _
      (λ e. chosen (Same v p d) (talks d) _ _ (λ h. n.talk _) (λ h. p.talking _ _ ∙ lost_same))
      (λ e. p.talking _ _ ∙ lost_same)

  pub sad_same : (a : ℕ) → Same v p d (sad d a)
  unfolding sad
  sad_same a =
      chosen (Same v p d) (eqb a (present_second d)) _ _
      (λ e. sad_talks_same v p d (sad_listens d) (sad_listens_same v p d))
      (λ e. chosen (Same v p d) (talk_primary d) _ _ (λ t. p.talking _ _ ∙ lost_same) (λ t. lost_same))

module _ {A : Type 0} (v : Device → A) (p : Plain v) (s : Apart v) (d : Device) where
  aes_leaves : (f a : ℕ) → Leaves v p d (aes d f a)
  unfolding aes
  aes_leaves f a =
      chosen (Leaves v p d) (eqb d.configured 0) _ _ (λ e. s.placed _ _ _ ∙ s.seconding _ _) (λ e. refl)

  aep_same : (a : ℕ) → Same v p d (aep d a)
  unfolding aep
  aep_same a =
      chosen (Same v p d) (eqb d.configured half_assigned) _ d
      (λ e. chosen (Same v p d) (ltb (present_second d) no_address) _ d (λ l. s.placed _ _ _) (λ l. refl)) (λ e. refl)

  module _ (f : ℕ) (r : MovesRemote f → NotRemote v) (b : Assigns f → NotAssigned v) where
    heeded_leaves : (k : ℕ) → Leaves v p d (takes_simple (heeding d k) f)
    unfolding heeding
    heeded_leaves k =
        chosen (λ (x : Device). Leaves v p d (takes_simple x f)) (command_kind k) (primary_idle d) d
        (λ c. untouched_simple v p (primary_idle d) f r b (λ a. s.placed) ∙ lost_same v p s.flags d)
        (λ c. untouched_simple v p d f r b (λ a. s.placed))

    extended_leaves : Leaves v p d (takes_extended d f)
    unfolding takes_extended
    extended_leaves =
        selected (Leaves v p d) (kind_at f) (extended_rules d f (decoded f)) (takes_simple (heeding d (kind_at f)) f)
        (λ u. heeded_leaves (kind_at f))
        (λ e. extended_lad_same v p s.flags d _ (r (inr (inr (inl e)))))
        (λ e. extended_tad_same v p s.flags d _)
        (λ e. sad_same v p s.flags d _)
        (λ e. s.placed _ _ _ ∙ s.seconding _ _ ∙ lost_same v p s.flags d)
        (λ e. refl)
        (λ e. aes_leaves f _)
        (λ e. aep_same _)

    -- by either variant's rules, if the value is no address and no flag either
    pub untouched : Leaves v p d (takes d f)
    untouched =
        by_variant (Leaves v p d) d f (λ x. extended_leaves) (λ x. untouched_simple v p d f r b (λ a. s.placed))
