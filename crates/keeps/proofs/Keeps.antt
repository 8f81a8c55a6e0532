-- The theorems of specs/Keeps.antt: rule by rule in the papers' order, and then whichever rule the frame's kind
-- selects.
use Prim.Native.Nat.{ℕ, ◌+◌, ◌*◌, ◌/◌, ◌%◌, ◌≤◌, ◌<◌}
use mathlib.Core.Path.{◌≡◌, refl, ap}
use mathlib.Core.Bool.{Bool, true}
use native.Mathlib.Omega.{arith}
use lib.Dec.{eqb, ltb, leb}
use lib.ListN.{length}
use borrow.Author.Tests.{eqb-true, eqb-false, ltb-true, ltb-false, leb-true}
use Rattle.frame.specs.declared.Kind.TheVariants.{Aad, Aes}
use Rattle.frame.specs.Messages.{kind_at}
use Rattle.frame.specs.Decoding.{has_c1, decoded}
use Rattle.frame.specs.declared.Message.{Message}
use Rattle.device.specs.Choose.{choose}
use Rattle.device.specs.Device.{has, has_further, talks, send_data, status, parallel_poll, extended, is_choice, sending}
use Rattle.device.specs.Change.{listening, talking, remoting, flagging}
use Rattle.device.specs.Remote.{ren, nre, moves, to_remote, llo, gtl, key}
use Rattle.device.specs.Commands.{lad, tad, ifc, aau}
use Rattle.device.specs.Clear.{reports, to_listener}
use Rattle.device.specs.Reply.{sends, marked, eto, ete}
use Rattle.device.specs.Ready.{requested, polls, sst, nrd, aad}
use Rattle.device.specs.Data.{returned, heard, data_or_end}
use Rattle.device.specs.Extended.{command_kind, primary_idle, heeding, extended_lad, extended_tad, sad_listens, sad_talks}
use Rattle.device.specs.Extended.{sad, extended_aau, aes, aep}
use Rattle.device.specs.Take.{rules, extended_rules, takes_simple, takes_extended, takes}
use Rattle.record_local.specs.Local.{loads, sets_status, wishing, wishes, yes_or_no, sets_poll_status}
use Rattle.device.specs.declared.Device.{Device}
use Rattle.device.specs.declared.Handed.{Handed}
use Rattle.device.specs.Sentences.{Of}
use Rattle.device.proofs.Classes.{aad_codes, aad_address, aes_codes, aes_address, aep_address, ppe_number}
use Rattle.device.proofs.Chosen.{chosen, selected, by_variant}
use Rattle.device.proofs.Marked.{Shows, shows, answers, marked_below}
use Rattle.record_local.specs.Local.{Called}
use Rattle.record.specs.Fits.{Good}
use Rattle.record.proofs.Variants.{doubly_of}
use Rattle.record.proofs.Both.{left, right}
use Rattle.keeps.specs.Keeps.{TakeKeeps, TakeBelow, LoadKeeps, StatusKeeps, WishKeeps, LastIsData}
use Rattle.keeps.specs.Keeps.{ChoiceKeeps, KeyKeeps, PollStatusKeeps, GoodOfBytes}
use Rattle.keeps.proofs.Groups.{Kept, polled_of, kept_of, good_of, eq_out, lt_out}
use Rattle.keeps.proofs.Changes.{listening_kept, resting_kept, placed_kept, spot_kept, serving_kept}
use Rattle.keeps.proofs.Changes.{noting_kept}
use Rattle.keeps.proofs.Changes.{remoting_kept, enabling_kept, loading_kept, choosing_kept, statusing_kept}
use Rattle.keeps.proofs.Changes.{polling_kept}
use Rattle.keeps.proofs.Polls.{able_poll, none_kept, ppe_kept, ppd_kept}
use Rattle.keeps.proofs.Replies.{Out, others, Sends, stops_out, continues_out}

-- the frame goes on, and the device after it is sound
passes : (d : Device) (f : ℕ) → Kept d → Out f (sends d f)
passes d f k = record { device = k; frame = λ i. i }

-- ---- remote and local

-- a move between the four states ends in one of them
moves_few : (s a b c e : ℕ) → s ≤ 3 → b ≤ 3 → e ≤ 3 → moves s a b c e ≤ 3
unfolding moves
moves_few s a b c e h i j =
    chosen (λ x. x ≤ 3) (eqb s a) b _ (λ p. i) (λ p. chosen (λ x. x ≤ 3) (eqb s c) e s (λ q. j) (λ q. h))

module _ (d : Device) (k : Kept d) where
  -- moved where a test says so
  moved_kept : (test : Bool) (a b c e : ℕ) → b ≤ 3 → e ≤ 3 →
      Kept (choose test (remoting d (moves d.remote a b c e)) d)
  moved_kept test a b c e i j =
      chosen Kept test _ d (λ t. remoting_kept d k _ (moves_few d.remote a b c e k.remotes.remote i j)) (λ t. k)

  remote_kept : Kept (to_remote d)
  unfolding to_remote
  remote_kept = moved_kept (eqb d.enabled 1) _ _ _ _ (omega arith) (omega arith)

  llo_kept : Kept (llo d)
  unfolding llo
  llo_kept = moved_kept (eqb d.enabled 1) _ _ _ _ (omega arith) (omega arith)

  gtl_kept : Kept (gtl d)
  unfolding gtl
  gtl_kept = moved_kept (eqb d.listener 1) _ _ _ _ (omega arith) (omega arith)

  ren_kept : Kept (ren d)
  ren_kept = enabling_kept d k 1 (omega arith)

  nre_kept : Kept (nre d)
  nre_kept = enabling_kept (remoting d 0) (remoting_kept d k 0 (omega arith)) 0 (omega arith)

  key_kept : Kept (key d)
  unfolding key
  key_kept = chosen Kept (eqb d.remote 1) _ d (λ e. remoting_kept d k 0 (omega arith)) (λ e. k)

remote_able : (d : Device) (x : ℕ) → has d x ≡ true → has (to_remote d) x ≡ true
unfolding to_remote
remote_able d x h = chosen (λ y. has y x ≡ true) (eqb d.enabled 1) _ d (λ e. h) (λ e. h)

-- ---- clear and trigger

reports_out : (d : Device) (f : ℕ) (h : Handed) → Kept d → Out f (reports d f h)
reports_out d f h k = record { device = k; frame = λ i. i }

listener_out : (d : Device) (f : ℕ) (h : Handed) → Kept d → Out f (to_listener d f h)
unfolding to_listener
listener_out d f h k = chosen (Out f) (eqb d.listener 1) _ _ (λ e. reports_out d f h k) (λ e. passes d f k)

-- ---- commands

module _ (d : Device) (k : Kept d) where
  idle_kept : Kept (talking d 0)
  idle_kept = resting_kept d k 0 (omega arith) (λ e. absurd (omega arith))

  deaf_kept : Kept (listening d 0)
  deaf_kept = listening_kept d k 0 (omega arith) (λ e. absurd (omega arith))

  ifc_kept : Kept (ifc d)
  ifc_kept = resting_kept (listening d 0) deaf_kept 0 (omega arith) (λ e. absurd (omega arith))

  lad_kept : (a : ℕ) → Kept (lad d a)
  unfolding lad
  lad_kept a =
      chosen Kept (eqb a d.address) _ d
      (λ e. chosen Kept (has d 1) _ d (λ h. heard_kept h) (λ h. k))
      (λ e. k)
    where
      heard_kept : has d 1 ≡ true →
          Kept (choose (has d 64) (talking (listening (to_remote d) 1) 0) (listening (to_remote d) 1))
      heard_kept h =
          let r = to_remote d in
          let l = listening_kept r (remote_kept d k) 1 (omega arith) (λ e. remote_able d 1 h) in
          chosen Kept (has d 64) _ _ (λ u. resting_kept (listening r 1) l 0 (omega arith) (λ e. absurd (omega arith)))
          (λ u. l)

  tad_kept : (a : ℕ) → Kept (tad d a)
  unfolding tad
  tad_kept a =
      chosen Kept (eqb a d.address) _ (talking d 0)
      (λ e. chosen Kept (talks d) _ (talking d 0) (λ h. talk_kept h) (λ h. idle_kept))
      (λ e. idle_kept)
    where
      talk_kept : talks d ≡ true → Kept (choose (has d 64) (talking (listening d 0) 1) (talking d 1))
      talk_kept h =
          chosen Kept (has d 64) _ _
          (λ u. resting_kept (listening d 0) deaf_kept 1 (omega arith) (λ e. h))
          (λ u. resting_kept d k 1 (omega arith) (λ e. h))

  aau_kept : Kept (aau d)
  unfolding aau
  aau_kept =
      chosen Kept (has d 32) _ d
      (λ h. placed_kept d k d.fixed 0 k.made.fixed (omega arith) (λ e. refl) h (λ e. absurd (omega arith)))
      (λ h. k)

-- ---- ready frames

-- a device about to send in state 2, 3, 4 or 5
module _ (d : Device) (k : Kept d) where
  about : (s : ℕ) → 1 < s → s ≤ 5 → (s ≡ 2 → has d 2 ≡ true) → (s ≡ 3 → has d 4 ≡ true) → (s ≡ 4 → has d 8 ≡ true) →
      (s ≡ 5 → has d 16 ≡ true) → Sends (talking d s)
  about s l h a b c e =
      record {
        low = l;
        high = h;
        noted = omega arith;
        as_data = a;
        as_status = b;
        as_id = c;
        as_accessory = e;
        none = λ i. refl;
      }

  to_data : has d 2 ≡ true → Sends (talking d 2)
  to_data h = about 2 (omega arith) (omega arith) (λ e. h) (λ e. absurd (omega arith)) (λ e. absurd (omega arith))
      (λ e. absurd (omega arith))

  to_status : has d 4 ≡ true → Sends (talking d 3)
  to_status h = about 3 (omega arith) (omega arith) (λ e. absurd (omega arith)) (λ e. h) (λ e. absurd (omega arith))
      (λ e. absurd (omega arith))

  to_id : has d 8 ≡ true → Sends (talking d 4)
  to_id h = about 4 (omega arith) (omega arith) (λ e. absurd (omega arith)) (λ e. absurd (omega arith)) (λ e. h)
      (λ e. absurd (omega arith))

  to_accessory : has d 16 ≡ true → Sends (talking d 5)
  to_accessory h = about 5 (omega arith) (omega arith) (λ e. absurd (omega arith)) (λ e. absurd (omega arith))
      (λ e. absurd (omega arith)) (λ e. h)

  requested_out : (f ability state : ℕ) → (has d ability ≡ true → Sends (talking d state)) →
      Out f (requested d f ability state)
  unfolding requested
  requested_out f ability state s =
      chosen (Out f) (eqb d.talker 1) _ _
      (λ e. chosen (Out f) (has d ability) _ _ (λ h. continues_out (talking d state) (others d k) (s h) f)
      (λ h. passes d f k))
      (λ e. passes d f k)

  polls_kept : Kept (polls d)
  unfolding polls
  polls_kept =
      chosen Kept (eqb d.service 1) _ d
      (λ e. let z : d.service ≡ 1 = eqb-true _ _ e in serving_kept d k 2 (omega arith) (λ i. asks z))
      (λ e. k)
    where
      asks : d.service ≡ 1 → has d 128 ≡ true
      asks z = lt_out {m = 0} {n = d.service} k.serves.able (omega arith)

  polls_able : (b : Bool) → has d 4 ≡ b → has (polls d) 4 ≡ b
  unfolding polls
  polls_able b h = chosen (λ x. has x 4 ≡ b) (eqb d.service 1) _ d (λ e. h) (λ e. h)

module _ (d : Device) (k : Kept d) (f : ℕ) where
  sst_out : Out f (sst d f)
  unfolding sst
  sst_out =
      chosen (Out f) (eqb d.talker 1) _ _
      (λ e. chosen (Out f) (has d status) _ _
      (λ h. continues_out (talking (polls d) 3) (others (polls d) (polls_kept d k))
      (to_status (polls d) (polls_kept d k) (polls_able d k true h)) f)
      (λ h. passes d f k))
      (λ e. passes d f k)

  nrd_kept : Kept (nrd d)
  unfolding nrd
  nrd_kept = chosen Kept (sending d) _ d (λ e. noting_kept d k (ltb-true _ _ e)) (λ e. k)

  -- an address taken is 0 to 30, and so the frame plus one is a frame
  aad_out : Of Aad f → Out f (aad d f (decoded f).offset)
  unfolding aad
  aad_out e =
      let w = aad_codes f e in
      let a = aad_address f e in
      chosen (Out f) (eqb d.configured 0) _ _
      (λ c. chosen (Out f) (has d 32) _ _
      (λ h. record {
        device = placed_kept d k (decoded f).offset 1 (omega arith) (omega arith) (λ i. absurd (omega arith)) h
            (λ i. omega arith);
        frame = λ i. omega arith;
      })
      (λ h. passes d f k))
      (λ c. passes d f k)

  -- ---- data or end, and identify

  still : 1 < d.talker → Sends d
  still h =
      let t = k.talks in
      record {
        low = h;
        high = t.talker;
        noted = t.noted;
        as_data = t.sends_data;
        as_status = t.sends_status;
        as_id = t.sends_id;
        as_accessory = t.sends_accessory;
        none = λ e. t.none (omega arith);
      }

  returned_out : (m : Message) → 1 < d.talker → Out f (returned d m)
  unfolding returned
  returned_out m h =
      let o = others d k in
      chosen (Out f) _ _ _
      (λ e. chosen (Out f) (eqb d.noted 1) _ _ (λ i. stops_out d o (still h) f eto (omega arith))
      (λ i. continues_out d o (still h) f))
      (λ e. stops_out d o (still h) f ete (omega arith))

  module _ (m : Message) (i : Shows m) where
    marked_out : Out f (sends d (marked d m))
    marked_out = record { device = k; frame = λ h. marked_below d m i }

    heard_out : Out f (heard d m)
    unfolding heard
    heard_out = chosen (Out f) (eqb d.listener 1) _ _
        (λ e. record { device = k; frame = λ h. marked_below d m i }) (λ e. marked_out)

    data_out : Out f (data_or_end d m)
    unfolding data_or_end
    data_out = chosen (Out f) (sending d) _ _ (λ e. returned_out m (ltb-true _ _ e)) (λ e. heard_out)

-- ---- whichever rule is selected

simple_out : (d : Device) (f : ℕ) → Kept d → Out f (takes_simple d f)
unfolding takes_simple has_c1
simple_out d f k =
    selected (Out f) (kind_at f) (rules d f (decoded f)) (sends d f) (λ u. passes d f k)
    (λ e. passes _ f (lad_kept d k _))
    (λ e. passes _ f (deaf_kept d k))
    (λ e. passes _ f (tad_kept d k _))
    (λ e. passes _ f (idle_kept d k))
    (λ e. passes _ f (ifc_kept d k))
    (λ e. passes _ f (aau_kept d k))
    (λ e. reports_out d f _ k)
    (λ e. listener_out d f _ k)
    (λ e. listener_out d f _ k)
    (λ e. passes _ f (ren_kept d k))
    (λ e. passes _ f (nre_kept d k))
    (λ e. passes _ f (llo_kept d k))
    (λ e. passes _ f (gtl_kept d k))
    (λ e. passes _ f (ppe_kept d k _ (ppe_number f e)))
    (λ e. passes _ f (ppd_kept d k))
    (λ e. passes _ f (none_kept d k))
    (λ e. requested_out d k f 2 2 (to_data d k))
    (λ e. sst_out d k f)
    (λ e. requested_out d k f 8 4 (to_id d k))
    (λ e. requested_out d k f 16 5 (to_accessory d k))
    (λ e. passes _ f (nrd_kept d k f))
    (λ e. aad_out d k f e)
    (λ e. data_out d k f _ (shows f (ap has_c1 e)))
    (λ e. data_out d k f _ (shows f (ap has_c1 e)))
    (λ e. marked_out d k f _ (answers d (shows f (ap has_c1 e))))

-- ---- an extended device's own rules

-- flags are put in front of the second addresses
module _ (d : Device) (k : Kept d) (x : has_further d extended ≡ true) where
  flagging_kept : (l t : ℕ) → l ≤ 32 → t ≤ 32 → l % 32 ≡ 0 → t % 32 ≡ 0 → Kept (flagging d l t)
  flagging_kept l t m n e i =
      let p = doubly_of d (rw x at k.placed.variant) in
      spot_kept d k x d.address d.configured (d.fixedsecond % 32 + l) (d.second % 32 + t)
      k.placed.address k.placed.configured (λ c. eqb-true _ _ (eq_out k.placed.unconf c))
      (omega arith) (omega arith)
      (λ c. let q = eqb-true (d.second % 32) (d.fixedsecond % 32) (eq_out p.unconf c) in omega arith)
      (λ c. let b = eq_out p.conf c in (
        ltb-true _ _ (left (ltb d.address 31) _ b),
        let q = ltb-true (d.second % 32) 31 (right (ltb d.address 31) _ b) in omega arith,
      ))

  lost_kept : Kept (primary_idle d)
  lost_kept = flagging_kept 0 0 (omega arith) (omega arith) refl refl

  lost_idle : Kept (talking (primary_idle d) 0)
  lost_idle = idle_kept (primary_idle d) lost_kept

  extended_tad_kept : (a : ℕ) → Kept (extended_tad d a)
  unfolding extended_tad
  extended_tad_kept a =
      chosen Kept (eqb a d.address) _ _
      (λ e. chosen Kept (talks d) _ _ (λ h. flagging_kept 0 32 (omega arith) (omega arith) refl refl) (λ h. lost_idle))
      (λ e. lost_idle)

  extended_aau_kept : Kept (extended_aau d)
  extended_aau_kept =
      let p = doubly_of d (rw x at k.placed.variant) in
      spot_kept d k x d.fixed 0 (d.fixedsecond % 32 + 0)
      ((((d.second % 32 + 0) / 32) * 32) + d.fixedsecond % 32) k.made.fixed (omega arith) (λ c. refl)
      (omega arith) (omega arith) (λ c. omega arith) (λ c. absurd (omega arith))

  aes_out : (f : ℕ) → Of Aes f → Out f (aes d f (decoded f).offset)
  unfolding aes
  aes_out f e =
      let w = aes_codes f e in
      let a = aes_address f e in
      let p = doubly_of d (rw x at k.placed.variant) in
      chosen (Out f) (eqb d.configured 0) _ _
      (λ c. record {
        device = spot_kept d k x d.address 2 d.fixedsecond ((d.second / 32) * 32 + (decoded f).offset)
            k.placed.address (omega arith) (λ c. absurd (omega arith)) p.fixedsecond (omega (arith, p.second))
            (λ c. absurd (omega arith)) (λ c. absurd (omega arith));
        frame = λ i. omega arith;
      })
      (λ c. passes d f k)

  aep_kept : (a : ℕ) → a < 31 → Kept (aep d a)
  unfolding aep
  aep_kept a h =
      let p = doubly_of d (rw x at k.placed.variant) in
      chosen Kept (eqb d.configured 2) _ d
      (λ c. chosen Kept (ltb (d.second % 32) 31) _ d
      (λ l. spot_kept d k x a 1 d.fixedsecond d.second (omega arith) (omega arith) (λ c. absurd (omega arith))
      p.fixedsecond p.second (λ c. absurd (omega arith)) (λ c. (h, ltb-true (d.second % 32) 31 l)))
      (λ l. k))
      (λ c. k)

remote_extended : (d : Device) → has_further d extended ≡ true → has_further (to_remote d) extended ≡ true
unfolding to_remote
remote_extended d x = chosen (λ y. has_further y extended ≡ true) (eqb d.enabled 1) _ d (λ e. x) (λ e. x)

extended_lad_kept : (d : Device) → Kept d → has_further d extended ≡ true → (a : ℕ) → Kept (extended_lad d a)
unfolding extended_lad
extended_lad_kept d k x a =
    chosen Kept (eqb a d.address) _ _
    (λ e. chosen Kept (has d 1) _ _
    (λ h. flagging_kept (to_remote d) (remote_kept d k) (remote_extended d x) 32 0 (omega arith) (omega arith) refl refl)
    (λ h. lost_kept d k x))
    (λ e. lost_kept d k x)

module _ (d : Device) (k : Kept d) where
  sad_listens_kept : Kept (sad_listens d)
  unfolding sad_listens
  sad_listens_kept =
      chosen Kept (leb 32 d.fixedsecond) _ d
      (λ l. chosen Kept (has d 1) _ d
      (λ h. let s = listening_kept d k 1 (omega arith) (λ e. h) in
      chosen Kept (has d 64) _ _ (λ u. idle_kept (listening d 1) s) (λ u. s))
      (λ h. k))
      (λ l. k)

  sad_talks_kept : Kept (sad_talks d)
  unfolding sad_talks
  sad_talks_kept =
      chosen Kept (leb 32 d.second) _ d
      (λ l. chosen Kept (talks d) _ d
      (λ h. chosen Kept (has d 64) _ _
      (λ u. resting_kept (listening d 0) (deaf_kept d k) 1 (omega arith) (λ e. h))
      (λ u. resting_kept d k 1 (omega arith) (λ e. h)))
      (λ h. k))
      (λ l. k)

sad_kept : (d : Device) → Kept d → has_further d extended ≡ true → (a : ℕ) → Kept (sad d a)
unfolding sad
sad_kept d k x a =
    chosen Kept (eqb a (d.second % 32)) _ _ (λ e. sad_talks_kept (sad_listens d) (sad_listens_kept d k))
    (λ e. chosen Kept (leb 32 d.second) _ _ (λ t. lost_idle d k x) (λ t. lost_kept d k x))

extended_out : (d : Device) (f : ℕ) → Kept d → has_further d extended ≡ true → Out f (takes_extended d f)
unfolding takes_extended heeding
extended_out d f k x =
    selected (Out f) (kind_at f) (extended_rules d f (decoded f)) (takes_simple (heeding d (kind_at f)) f)
    (λ u. chosen (λ (c : Device). Out f (takes_simple c f)) (command_kind (kind_at f)) (primary_idle d) d
    (λ c. simple_out (primary_idle d) f (lost_kept d k x)) (λ c. simple_out d f k))
    (λ e. passes _ f (extended_lad_kept d k x _))
    (λ e. passes _ f (extended_tad_kept d k x _))
    (λ e. passes _ f (sad_kept d k x _))
    (λ e. passes _ f (extended_aau_kept d k x))
    (λ e. passes d f k)
    (λ e. aes_out d k x f e)
    (λ e. passes _ f (aep_kept d k x _ (aep_address f e)))

take_out : (d : Device) (f : ℕ) → Kept d → Out f (takes d f)
take_out d f k = by_variant (Out f) d f (λ x. extended_out d f k x) (λ x. simple_out d f k)

-- ---- the theorems

pub take_keeps : TakeKeeps
take_keeps d f g = good_of (takes d f).device (take_out d f (kept_of d g)).device

pub take_below : TakeBelow
take_below d f g h = (take_out d f (kept_of d g)).frame h

pub take_good : (d : Device) (f : ℕ) → Good d → f < 2048 → Good (takes d f).device × ((takes d f).frame < 2048)
take_good d f g h = (take_keeps d f g, take_below d f g h)

pub load_good : LoadKeeps
unfolding loads
load_good d bs x b g =
    chosen (λ (c : Called). Good c.device) (is_choice x) _ _
    (λ t. chosen (λ (c : Called). Good c.device) (has d send_data) _ _
    (λ h. chosen (λ (c : Called). Good c.device) (ltb 32 (length bs)) _ _ (λ e. g)
    (λ e. chosen (λ (c : Called). Good c.device) (eqb d.talker 2) _ _ (λ i. g)
    (λ i. good_of _
    (loading_kept d (kept_of d g) bs x b (leb-true _ _ t) (ltb-false _ _ e) h (eqb-false _ _ i)))))
    (λ h. g))
    (λ t. g)

pub choice_good : ChoiceKeeps
choice_good d e h g = good_of _ (choosing_kept d (kept_of d g) e h)

pub status_good : StatusKeeps
unfolding sets_status
status_good d s b g =
    chosen (λ (c : Called). Good c.device) (has d status) _ _ (λ h. good_of _ (statusing_kept d (kept_of d g) s b))
    (λ h. g)

pub wish_good : WishKeeps
unfolding wishes wishing
wish_good d w g =
    chosen (λ (c : Called). Good c.device) (has d 128) _ _
    (λ h. chosen Good (eqb w 0) _ _
    (λ e. good_of _ (serving_kept d (kept_of d g) 0 (omega arith) (λ i. h)))
    (λ e. chosen Good (eqb d.service 0) _ d
    (λ i. good_of _ (serving_kept d (kept_of d g) 1 (omega arith) (λ i. h))) (λ i. g)))
    (λ h. g)

pub key_good : KeyKeeps
key_good d g = good_of _ (key_kept d (kept_of d g))

-- any number but 0 is yes
yes_few : (s : ℕ) → yes_or_no s ≤ 1
unfolding yes_or_no
yes_few s = chosen (λ x. x ≤ 1) (eqb s 0) _ _ (λ e. omega arith) (λ e. omega arith)

pub poll_status_good : PollStatusKeeps
unfolding sets_poll_status
poll_status_good d s g =
    let k = kept_of d g in
    let p = polled_of d k.polls in
    chosen (λ (c : Called). Good c.device) (has_further d parallel_poll) _ _
    (λ a. good_of _
    (polling_kept d k d.assigned (yes_or_no s)
    (able_poll d p d.assigned (yes_or_no s) a p.assignment (yes_few s))))
    (λ a. g)

pub last_is_data : LastIsData
last_is_data d g = record { past = omega (arith, (kept_of d g).talks.last) }

pub good_of_bytes : GoodOfBytes
good_of_bytes d g =
    let f = g.fits in record { status = f.status; accessory = f.accessory; id = f.id; load = f.load }
