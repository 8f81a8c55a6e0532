-- One device: a frame changes its address only if it is an AAU, or an AAD and the device unconfigured; it sends an AAU
-- only for an AAU and an AAD only for an AAD; and a local call changes none of this.
use Prim.Native.Nat.{ℕ, ◌+◌, ◌*◌, ◌≤◌, ◌<◌}
use mathlib.Core.Path.{◌≡◌, refl, sym, ap, ◌∙◌}
use mathlib.Core.Bool.{Bool, true, false, true≢false}
use mathlib.Core.Logic.{⊎_elim}
use mathlib.Core.Option.{some}
use native.Mathlib.Omega.{arith}
use lib.Dec.{eqb, ltb}
use lib.ListN.{length}
use borrow.Author.Tests.{eqb-true, eqb-false, eq-eqb, ne_eqb}
use Rattle.frame.specs.Messages.{kind_at, messages, first_in, first_of, codes_in, codes_of}
use Rattle.frame.specs.Decoding.{has_c1, message, decoded, offsets_of, c1s_of}
use Rattle.frame.specs.declared.Kind.TheVariants.{Tad, Aau, Aad}
use Rattle.frame.specs.declared.Message.{Message}
use Rattle.frame.proofs.Rows.{within_kind}
use Rattle.frame.proofs.Laws.{placed}
use Rattle.device.specs.Choose.{choose}
use Rattle.device.specs.Device.{send_data, status, service_request, parallel_poll, auto_address, unaddress, extended}
use Rattle.device.specs.Device.{no_address, idle, addressed, sending_data, no_service, REMS, most_data, is_choice}
use Rattle.device.specs.Device.{has, has_further, talks}
use Rattle.device.specs.Change.{listening, talking}
use Rattle.device.specs.Commands.{tad, aau}
use Rattle.device.specs.Ready.{aad}
use Rattle.device.specs.Remote.{key}
use Rattle.device.specs.Reply.{sends}
use Rattle.device.specs.Take.{select, rules, takes_simple, takes}
use Rattle.device.specs.Sentences.{Of}
use Rattle.device.specs.ExtendedSentences.{Simple}
use Rattle.device.specs.declared.Device.{Device}
use Rattle.device.proofs.Chosen.{chosen}
use Rattle.device.proofs.Untouched.{Plain, Apart, plain, apart, plain_place, untouched, untouched_simple}
use Rattle.device.proofs.Sentences.{none_of_its_own, configured_passes_aad}
use Rattle.device.proofs.ExtendedSentences.{simple_alone}
use Rattle.record.specs.Fits.{Good}
use Rattle.record.proofs.Laws.{variants}
use Rattle.record_local.specs.Local as device
use Rattle.record_local.specs.Local.{loads, sets_status, wishing, wishes, sets_poll_status}
use Rattle.keeps.proofs.Keeps.{take_keeps, load_good, status_good, wish_good, key_good, poll_status_good, good_of_bytes}
use Rattle.demands.specs.Calls.{numbers, Local, load, status as setStatus, wish, key as press, poll_status, called_by}
use Rattle.demands.specs.Histories.{accepted_by}
use Rattle.demands.proofs.Rendered.{numbers_bytes}
use Rattle.demands.proofs.Polled.{accepted}
use Rattle.addresses.specs.Addresses as page
use Rattle.addresses.specs.Addresses.{Codes}

-- ---- the codes

coded : (k o : ℕ) → o < offsets_of k → 0 < c1s_of k → decoded (first_of k + o) ≡ message k o 0
coded k o h c =
    let e : first_of k + o + 256 * 0 ≡ first_of k + o = omega arith in rw e at (placed k o 0 h c).again

pub codes : Codes
unfolding messages first_in first_of codes_in codes_of has_c1 offsets_of c1s_of
codes =
    record {
      of_aau = coded 21 0 (omega arith) (omega arith);
      of_aad = λ k h. coded 34 k h (omega arith);
      of_iaa = coded 35 0 (omega arith) (omega arith);
      of_tad = λ t h. coded 14 t h (omega arith);
    }

pub aau_code : (f : ℕ) → Of Aau f → f ≡ page.aau
unfolding messages first_in first_of codes_in codes_of
aau_code f e = let w = within_kind f 21 e (omega arith) in omega (arith, w.0, w.1)

tad_codes : (f : ℕ) → Of Tad f → (0x440 ≤ f) × (f < 0x45f)
unfolding messages first_in first_of codes_in codes_of
tad_codes f e = within_kind f 14 e (omega arith)

-- ---- the values that matter here

-- the same abilities and address, and configured or not as before
pub record Same (d e : Device) : Type 0 where
  pub abilities : e.abilities ≡ d.abilities
  pub address : e.address ≡ d.address
  pub configured : e.configured ≡ d.configured

itself : (d : Device) → Same d d
itself d = record { abilities = refl; address = refl; configured = refl }

-- abilities are none of the values that frames change
plain_abilities : Plain (λ (d : Device). d.abilities)
plain_abilities =
    record {
      listening = λ d x. refl;
      talking = λ d x. refl;
      serving = λ d x. refl;
      noting = λ d. refl;
      counting = λ d x y z. refl;
    }

apart_abilities : Apart (λ (d : Device). d.abilities)
apart_abilities =
    record {
      placed = λ d x y. refl;
      flags = record { neither = λ d. refl; listen = λ d. refl; talk = λ d. refl };
      seconding = λ d a. refl;
    }

abilities_stay : (d : Device) (f : ℕ) → (takes d f).device.abilities ≡ d.abilities
abilities_stay d f =
    untouched {A = ℕ} _ plain_abilities apart_abilities d f
    (λ r. record { remoting = λ d x. refl; enabling = λ d x. refl }) (λ n d x. refl)

pub further_stays : (d : Device) (f : ℕ) → (takes d f).device.further ≡ d.further
further_stays d f =
    untouched {A = ℕ} _ (plain (λ r e a s k. k)) (apart (λ r e a s k. k)) d f
    (λ r. record { remoting = λ d x. refl; enabling = λ d x. refl }) (λ n d x. refl)

-- ---- a simple device

module _ (d : Device) (s : Simple d) where
  by_rules : (f : ℕ) (m : Message) → decoded f ≡ m → takes d f ≡ select m.kind (rules d f m) (sends d f)
  unfolding takes_simple
  by_rules f m e =
      simple_alone.rules d f s ∙ ap (λ (n : Message). select n.kind (rules d f n) (sends d f)) e

  -- neither AAU nor AAD
  place_stays : (f : ℕ) → (Of Aau f → ⊥) → (Of Aad f → ⊥) → Same d (takes d f).device
  place_stays f u v =
      let e : ◌≡◌ {A = ℕ × ℕ} ((takes d f).device.address, (takes d f).device.configured) (d.address, d.configured) =
      rw (simple_alone.rules d f s) (untouched_simple {A = ℕ × ℕ} _ (plain_place (λ a c x y. (a, c))) d f
      (λ r. record { remoting = λ d x. refl; enabling = λ d x. refl }) (λ n d x. refl)
      (λ q. absurd (⊎_elim u v q))) in
      record {
        abilities = abilities_stay d f;
        address = ap (λ (x : ℕ × ℕ). x.0) e;
        configured = ap (λ (x : ℕ × ℕ). x.1) e;
      }

  -- the address stays but for AAU, and for AAD where the device is not configured
  pub stays : (f : ℕ) → (Of Aau f → ⊥) → (Of Aad f → d.configured ≡ 1) → Same d (takes d f).device
  stays f u v = go (eqb (kind_at f) 34) refl
    where
      go : (b : Bool) → eqb (kind_at f) 34 ≡ b → Same d (takes d f).device
      go true e =
          let k = eqb-true (kind_at f) 34 e in
          rw (configured_passes_aad d f (λ z. omega (arith, v k, z)) k) (itself d)
      go false e = place_stays f u (eqb-false (kind_at f) 34 e)

  -- AAU goes on, and leaves one with ability 32 unconfigured
  aau_is : takes d page.aau ≡ sends (aau d) page.aau
  unfolding choose
  aau_is = by_rules page.aau _ codes.of_aau

  pub aau_leaves : has d auto_address ≡ true →
      ((takes d page.aau).device.configured ≡ 0) × ((takes d page.aau).frame ≡ page.aau)
  unfolding aau choose
  aau_leaves h = rw (aau_is, h) (refl, refl)

  -- AAD k gives one with ability 32 that is unconfigured the address k, and goes on with k + 1
  aad_is : (k : ℕ) → k < no_address → takes d (page.aad k) ≡ aad d (page.aad k) k
  unfolding choose
  aad_is k b = by_rules (page.aad k) _ (codes.of_aad k b)

  pub aad_gives : (k : ℕ) → k < no_address → has d auto_address ≡ true → d.configured ≡ 0 →
      ((takes d (page.aad k)).device.address ≡ k) × ((takes d (page.aad k)).device.configured ≡ 1) ×
      ((takes d (page.aad k)).frame ≡ page.aad k + 1)
  unfolding aad choose
  aad_gives k b h c = rw (aad_is k b, eq-eqb d.configured 0 c, h) (refl, refl, refl)

  -- TAD t goes on; it leaves a device of another address idle, and one of that address that can talk the talker
  tad_is : (t : ℕ) → t < no_address → takes d (page.tad t) ≡ sends (tad d t) (page.tad t)
  unfolding choose
  tad_is t b = by_rules (page.tad t) _ (codes.of_tad t b)

  pub tad_goes_on : (t : ℕ) → t < no_address → (takes d (page.tad t)).frame ≡ page.tad t
  tad_goes_on t b = rw (tad_is t b) refl

  pub tad_idle : (t : ℕ) → t < no_address → (d.address ≡ t → ⊥) → (takes d (page.tad t)).device.talker ≡ idle
  unfolding tad choose
  tad_idle t b n = rw (tad_is t b, ne_eqb t d.address (λ e. n (sym e)))

  pub tad_talks : (t : ℕ) → t < no_address → d.address ≡ t → talks d ≡ true →
      (takes d (page.tad t)).device.talker ≡ addressed
  unfolding tad choose
  tad_talks t b e k =
      rw (tad_is t b, eq-eqb t d.address (sym e), k)
      (chosen (λ (x : Device). x.talker ≡ addressed) (has d unaddress) (talking (listening d 0) addressed)
      (talking d addressed) (λ u. refl) (λ u. refl))

-- ---- a sound device with ability 32, which is a simple one

pub record Able (d : Device) : Type 0 where
  pub good : Good d
  pub able : has d auto_address ≡ true

module _ (d : Device) (p : Able d) where
  pub simple : Simple d
  simple = go (has_further d extended) refl
    where
      go : (b : Bool) → has_further d extended ≡ b → Simple d
      go false x = x
      go true x = absurd (true≢false (sym p.able ∙ variants.no_auto_address d p.good.sound x))

  module _ (f : ℕ) where
    pub able_next : Able (takes d f).device
    able_next = record { good = take_keeps d f p.good; able = rw (abilities_stay d f) p.able }

    -- a command that it sends was put
    pub aau_from : Of Aau (takes d f).frame → Of Aau f
    aau_from e =
        let x = aau_code (takes d f).frame e in
        let c = none_of_its_own.command d f (good_of_bytes d p.good)
        (record { first = omega arith; past = omega arith }) in
        rw c at e

    pub tad_from : Of Tad (takes d f).frame → Of Tad f
    tad_from e =
        let x = tad_codes (takes d f).frame e in
        let c = none_of_its_own.command d f (good_of_bytes d p.good)
        (record { first = omega (arith, x.0); past = omega (arith, x.1) }) in
        rw c at e

    pub aad_from : Of Aad (takes d f).frame → Of Aad f
    aad_from = none_of_its_own.aad d f (good_of_bytes d p.good)

-- ---- local calls

-- the same place, and the same talker
pub record Called (d e : Device) : Type 0 where
  pub place : Same d e
  pub talker : e.talker ≡ d.talker

alike : (d e : Device) → e.abilities ≡ d.abilities → e.address ≡ d.address → e.configured ≡ d.configured →
    e.talker ≡ d.talker → Called d e
alike d e a b c t = record { place = record { abilities = a; address = b; configured = c }; talker = t }

untouched_by : (d : Device) → Called d d
untouched_by d = alike d d refl refl refl refl

-- whatever of these is chosen
abbrev Left : Device → device.Called → Type 0
Left d c = Called d c.device

called_leaves : (c : Local) (d : Device) → Called d (called_by c d).device
unfolding loads sets_status wishes wishing sets_poll_status key
called_leaves (load bs e) d =
    chosen (Left d) (is_choice e) _ _
    (λ t. chosen (Left d) (has d send_data) _ _
    (λ h. chosen (Left d) (ltb most_data (length (numbers bs))) _ _ (λ l. untouched_by d)
    (λ l. chosen (Left d) (eqb d.talker sending_data) _ _ (λ b. untouched_by d) (λ b. alike d _ refl refl refl refl)))
    (λ h. untouched_by d))
    (λ t. untouched_by d)
called_leaves (setStatus s) d =
    chosen (Left d) (has d status) _ _ (λ h. alike d _ refl refl refl refl) (λ h. untouched_by d)
called_leaves (wish w) d =
    chosen (Left d) (has d service_request) _ _
    (λ h. chosen (Called d) (eqb w 0) _ _ (λ z. alike d _ refl refl refl refl)
    (λ z. chosen (Called d) (eqb d.service no_service) _ d (λ n. alike d _ refl refl refl refl)
    (λ n. untouched_by d)))
    (λ h. untouched_by d)
called_leaves press d =
    chosen (Called d) (eqb d.remote REMS) _ d (λ r. alike d _ refl refl refl refl) (λ r. untouched_by d)
called_leaves (poll_status s) d =
    chosen (Left d) (has_further d parallel_poll) _ _ (λ h. alike d _ refl refl refl refl) (λ h. untouched_by d)

called_good : (c : Local) (d : Device) → Good d → Good (called_by c d).device
called_good (load bs e) d g = load_good d (numbers bs) e (numbers_bytes bs) g
called_good (setStatus s) d g = status_good d s.value s.small g
called_good (wish w) d g = wish_good d w g
called_good press d g = key_good d g
called_good (poll_status s) d g = poll_status_good d s g

-- an accepted one
module _ (c : Local) (d e : Device) (h : accepted_by (called_by c d) ≡ some e) where
  pub local_leaves : Called d e
  local_leaves = rw (accepted (called_by c d) h) (called_leaves c d)

  pub local_able : Able d → Able e
  local_able p =
      let s = local_leaves.place in
      record { good = rw (accepted (called_by c d) h) (called_good c d p.good); able = rw s.abilities p.able }
