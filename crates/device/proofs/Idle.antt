-- A simple device that is idle stays so but for TAD: replies begin at an addressed talker and go on at a sending one,
-- and every other rule leaves the talker, or makes it idle.
use Prim.Native.Nat.{ℕ}
use mathlib.Core.Path.{◌≡◌, refl, sym, ◌∙◌}
use mathlib.Core.Bool.{true, true≢false}
use native.Mathlib.Omega.{arith}
use lib.Dec.{eqb}
use borrow.Author.Tests.{eqb-true, ltb-true}
use Rattle.frame.specs.Messages.{kind_at}
use Rattle.frame.specs.Decoding.{decoded}
use Rattle.frame.specs.declared.Kind.TheVariants.{Tad}
use Rattle.frame.specs.declared.Message.{Message}
use Rattle.device.specs.Choose.{choose}
use Rattle.device.specs.Device.{listen, auto_address, unaddress, parallel_poll, idle, addressed, has, has_further}
use Rattle.device.specs.Device.{sending}
use Rattle.device.specs.Commands.{lad, aau}
use Rattle.device.specs.Clear.{to_listener}
use Rattle.device.specs.Remote.{llo, gtl}
use Rattle.device.specs.Poll.{ppe, ppd}
use Rattle.device.specs.Reply.{sends}
use Rattle.device.specs.Ready.{requested, sst, nrd, aad}
use Rattle.device.specs.Data.{heard, data_or_end}
use Rattle.device.specs.Take.{rules, takes_simple}
use Rattle.device.specs.Sentences.{Of, IdleStays}
use Rattle.device.specs.declared.Device.{Device}
use Rattle.device.specs.declared.Handed.{Handed}
use Rattle.device.specs.Sent.{Sent}
use Rattle.device.proofs.Chosen.{chosen, selected, by_variant}
use Rattle.device.proofs.Told.{remote_talker}

abbrev Idle : Device → Type 0
Idle d = d.talker ≡ idle

abbrev IdleAfter : Sent → Type 0
IdleAfter s = Idle s.device

module _ (d : Device) (z : Idle d) where
  lad_idle : (a : ℕ) → Idle (lad d a)
  unfolding lad
  lad_idle a =
      chosen Idle (eqb a d.address) _ d
      (λ e. chosen Idle (has d listen) _ d
      (λ h. chosen Idle (has d unaddress) _ _ (λ u. refl) (λ u. remote_talker d ∙ z)) (λ h. z))
      (λ e. z)

  aau_idle : Idle (aau d)
  unfolding aau
  aau_idle = chosen Idle (has d auto_address) _ d (λ h. z) (λ h. z)

  listener_idle : (f : ℕ) (h : Handed) → IdleAfter (to_listener d f h)
  unfolding to_listener
  listener_idle f h = chosen IdleAfter (eqb d.listener 1) _ _ (λ e. z) (λ e. z)

  llo_idle : Idle (llo d)
  unfolding llo
  llo_idle = chosen Idle (eqb d.enabled 1) _ d (λ e. z) (λ e. z)

  gtl_idle : Idle (gtl d)
  unfolding gtl
  gtl_idle = chosen Idle (eqb d.listener 1) _ d (λ e. z) (λ e. z)

  ppe_idle : (s : ℕ) → Idle (ppe d s)
  unfolding ppe
  ppe_idle s =
      chosen Idle (eqb d.listener 1) _ d
      (λ e. chosen Idle (has_further d parallel_poll) _ d (λ h. z) (λ h. z)) (λ e. z)

  ppd_idle : Idle (ppd d)
  unfolding ppd
  ppd_idle = chosen Idle (eqb d.listener 1) _ d (λ e. z) (λ e. z)

  -- no reply starts
  unasked : (x y : Sent) → IdleAfter y → IdleAfter (choose (eqb d.talker addressed) x y)
  unasked x y h =
      chosen IdleAfter (eqb d.talker addressed) x y
      (λ t. absurd (omega (arith, z, eqb-true d.talker addressed t))) (λ t. h)

  requested_idle : (f ability state : ℕ) → IdleAfter (requested d f ability state)
  unfolding requested
  requested_idle f ability state = unasked _ (sends d f) z

  sst_idle : (f : ℕ) → IdleAfter (sst d f)
  unfolding sst
  sst_idle f = unasked _ (sends d f) z

  nrd_idle : Idle (nrd d)
  unfolding nrd
  nrd_idle = chosen Idle (sending d) _ d (λ e. z) (λ e. z)

  aad_idle : (f a : ℕ) → IdleAfter (aad d f a)
  unfolding aad
  aad_idle f a =
      chosen IdleAfter (eqb d.configured 0) _ _ (λ e. chosen IdleAfter (has d auto_address) _ _ (λ h. z) (λ h. z))
      (λ e. z)

  data_idle : (m : Message) → IdleAfter (data_or_end d m)
  unfolding data_or_end heard
  data_idle m =
      chosen IdleAfter (sending d) _ _ (λ e. absurd (omega (arith, z, ltb-true addressed d.talker e)))
      (λ e. chosen IdleAfter (eqb d.listener 1) _ _ (λ l. z) (λ l. z))

  -- whichever rule is selected
  simple_idle : (f : ℕ) → (Of Tad f → ⊥) → IdleAfter (takes_simple d f)
  unfolding takes_simple
  simple_idle f n =
      selected IdleAfter (kind_at f) (rules d f (decoded f)) (sends d f) (λ u. z)
      (λ e. lad_idle _)
      (λ e. z)
      (λ e. absurd (n e))
      (λ e. refl)
      (λ e. refl)
      (λ e. aau_idle)
      (λ e. z)
      (λ e. listener_idle f _)
      (λ e. listener_idle f _)
      (λ e. z)
      (λ e. z)
      (λ e. llo_idle)
      (λ e. gtl_idle)
      (λ e. ppe_idle _)
      (λ e. ppd_idle)
      (λ e. z)
      (λ e. requested_idle f _ _)
      (λ e. sst_idle f)
      (λ e. requested_idle f _ _)
      (λ e. requested_idle f _ _)
      (λ e. nrd_idle)
      (λ e. aad_idle f _)
      (λ e. data_idle _)
      (λ e. data_idle _)
      (λ e. z)

pub idle_stays : IdleStays
idle_stays d f s z n =
    by_variant IdleAfter d f (λ x. absurd (true≢false (sym x ∙ s))) (λ x. simple_idle d z f n)
