-- Where PPE and PPD do nothing, and what they and PPU do: by the rule of each.
use Prim.Native.Nat.{ℕ}
use mathlib.Core.Path.{◌≡◌, refl, sym, ap, ◌∙◌}
use mathlib.Core.Bool.{true, false}
use lib.Dec.{eqb}
use borrow.Author.Tests.{eq-eqb, ne_eqb}
use Rattle.frame.specs.declared.Kind.TheVariants.{Ppe, Ppd, Ppu}
use Rattle.frame.specs.Decoding.{decoded}
use Rattle.device.specs.Choose.{choose}
use Rattle.device.specs.Device.{parallel_poll, has_further}
use Rattle.device.specs.Change.{assigning}
use Rattle.device.specs.Poll.{assignment, unassigned, ppe, ppd}
use Rattle.device.specs.Extended.{primary_lost}
use Rattle.device.specs.Take.{takes_simple, takes}
use Rattle.device.specs.Sentences.{Of}
use Rattle.device.specs.PollSentences.{Assigning, OnlyListeners}
use Rattle.device.specs.declared.Device.{Device}
use Rattle.device.specs.Sent.{Sent}
use Rattle.device.proofs.Chosen.{chosen, lost, as_lost}

-- what they do to a device, they do to one that has lost its primary
module _ (d : Device) (f : ℕ) where
  ppe_lost : Of Ppe f → (takes d f).device ≡ ppe (primary_lost d) (decoded f).offset
  unfolding takes_simple choose
  ppe_lost e = ap (λ (s : Sent). s.device) (as_lost d f _ e refl refl) ∙ rw e

  ppd_lost : Of Ppd f → (takes d f).device ≡ ppd (primary_lost d)
  unfolding takes_simple choose
  ppd_lost e = ap (λ (s : Sent). s.device) (as_lost d f _ e refl refl) ∙ rw e

  ppu_lost : Of Ppu f → (takes d f).device ≡ assigning (primary_lost d) unassigned
  unfolding takes_simple choose
  ppu_lost e = ap (λ (s : Sent). s.device) (as_lost d f _ e refl refl) ∙ rw e

  listener_lost : (primary_lost d).listener ≡ d.listener
  listener_lost = lost d (λ (x : Device). x.listener ≡ d.listener) refl refl

  further_lost : (primary_lost d).further ≡ d.further
  further_lost = lost d (λ (x : Device). x.further ≡ d.further) refl refl

module _ (d : Device) (s : ℕ) where
  ppe_deaf : (d.listener ≡ 1 → ⊥) → ppe d s ≡ d
  unfolding ppe choose
  ppe_deaf n = rw (ne_eqb d.listener 1 n)

  ppe_unable : has_further d parallel_poll ≡ false → ppe d s ≡ d
  unfolding ppe choose
  ppe_unable h = rw h (chosen (λ (x : Device). x ≡ d) (eqb d.listener 1) d d (λ l. refl) (λ l. refl))

  ppe_heard : d.listener ≡ 1 → has_further d parallel_poll ≡ true → ppe d s ≡ assigning d (assignment s)
  unfolding ppe choose
  ppe_heard l h = rw (eq-eqb d.listener 1 l, h)

module _ (d : Device) where
  ppd_deaf : (d.listener ≡ 1 → ⊥) → ppd d ≡ d
  unfolding ppd choose
  ppd_deaf n = rw (ne_eqb d.listener 1 n)

  ppd_heard : d.listener ≡ 1 → ppd d ≡ assigning d unassigned
  unfolding ppd choose
  ppd_heard l = rw (eq-eqb d.listener 1 l)

pub only_listeners : OnlyListeners
only_listeners =
    record {
      ppe = λ d f n e. ppe_lost d f e ∙ ppe_deaf (primary_lost d) _ (λ l. n (sym (listener_lost d f) ∙ l));
      ppe_able = λ d f h e. ppe_lost d f e ∙ ppe_unable (primary_lost d) _ (rw (further_lost d f) h);
      ppd = λ d f n e. ppd_lost d f e ∙ ppd_deaf (primary_lost d) (λ l. n (sym (listener_lost d f) ∙ l));
    }

pub assigned_by : Assigning
assigned_by =
    record {
      ppe = λ d f l h e.
          ppe_lost d f e ∙ ppe_heard (primary_lost d) _ (listener_lost d f ∙ l) (rw (further_lost d f) h);
      ppd = λ d f l e. ppd_lost d f e ∙ ppd_heard (primary_lost d) (listener_lost d f ∙ l);
      ppu = λ d f e. ppu_lost d f e;
    }
