-- The examples: those on bytes are computed; a device that takes AAD again does so by its rule, and another stays.
use Prim.Native.Nat.{ℕ, zero, suc, ◌+◌, ◌≤◌, ◌<◌}
use mathlib.Core.Path.{◌≡◌, refl, ap, ◌∙◌}
use mathlib.Core.Bool.{true, ◌&&◌}
use mathlib.Core.List.{[], ◌∷◌}
use native.Mathlib.Omega.{arith}
use lib.Dec.{eqb}
use Rattle.frame.specs.Messages.{messages, kind_at, number_of, lookup, within, first_in, first_of}
use Rattle.frame.specs.Decoding.{has_c1, offset_in, c1_in}
use Rattle.frame.specs.declared.Kind.TheVariants.{Aad}
use Rattle.frame.specs.declared.Message.{Message}
use Rattle.device.specs.Choose.{choose}
use Rattle.device.specs.Device.{auto_address, no_address, has}
use Rattle.device.specs.Change.{placed}
use Rattle.device.specs.PowerOn.{power_on, bytes_from}
use Rattle.device.specs.Commands.{lad, tad, aau}
use Rattle.device.specs.Reply.{sends}
use Rattle.device.specs.Ready.{aad}
use Rattle.device.specs.Take.{takes_simple, takes}
use Rattle.device.specs.Sent.{Sent}
use Rattle.device.specs.declared.Device.{Device}
use Rattle.device.proofs.Sentences.{configured_passes_aad}
use Rattle.record.specs.Record.{device_of, record_of, zeros}
use Rattle.record.specs.Sound.{sound_device, sound_record, allowed}
use Rattle.area.specs.Parts.{parts, join, all}
use Rattle.area.specs.Link.{frames_of, link_of, sound_slot, sound_link}
use Rattle.area.specs.Loop.{count_in, device, loop_of, area_of, shaped_with, sound, judge_with}
use Rattle.calls.specs.Outcome.{call_with}
use Rattle.calls.specs.Calls.{put_in, take_in, hop_in}
use Rattle.calls.specs.SetUp.{is_items, item_width, items_fit, set_up_with}
use Rattle.demands.specs.Histories.{area_left}
use Rattle.demands.specs.Demands.{AllEmpty}
use Rattle.addresses.specs.Addresses as page
use Rattle.addresses.specs.Examples.{loop_with, rounds, meter, meter30, OnBytes, takes_again, At, Accident}
use Rattle.addresses.proofs.Taken.{codes, aau_code, further_stays, stays, tad_goes_on, tad_talks}

-- ---- on bytes

pub on_bytes : OnBytes
unfolding messages kind_at lookup within first_in first_of has_c1 offset_in c1_in choose power_on bytes_from lad tad aau aad
    takes_simple takes device_of record_of zeros sound_device sound_record allowed parts join all frames_of link_of sound_slot
    sound_link loop_of area_of shaped_with sound judge_with call_with put_in take_in hop_in is_items item_width items_fit set_up_with
on_bytes =
    record {
      conditions =
          record {
            able = able;
            aau_gone = record { earlier = []; later = []; put = refl; no_aad = tt; back = empty₁ };
            aad_alone = record { empty = empty₁; alone = refl; back = empty₂ };
            enough = omega arith;
          };
      as_promised = record { addresses_are = refl; out_is = refl; talkers_are = refl };
      without_ability = record { addresses_are = refl; out_is = refl; talkers_are = refl };
      left_without = record { addresses_are = refl; out_is = refl; talkers_are = refl };
      one_too_many = record { addresses_are = refl; out_is = refl; talkers_are = refl };
    }
  where
    able : (i : ℕ) → i < count_in (loop_with meter meter30) →
        has (device (loop_of (loop_with meter meter30)) i) auto_address ≡ true
    able zero h = refl
    able (suc zero) h = refl
    able (suc (suc i)) h = absurd (omega arith)

    empty₁ : AllEmpty (area_left (loop_with meter meter30) (rounds (page.aau ∷ [])))
    empty₁ zero = refl
    empty₁ (suc zero) = refl
    empty₁ (suc (suc zero)) = refl
    empty₁ (suc (suc (suc j))) = refl

    empty₂ : let b = area_left (loop_with meter meter30) (rounds (page.aau ∷ [])) in
        AllEmpty (area_left b (rounds (page.aad 29 ∷ [])))
    empty₂ zero = refl
    empty₂ (suc zero) = refl
    empty₂ (suc (suc zero)) = refl
    empty₂ (suc (suc (suc j))) = refl

-- ---- the accident

again : (g : ℕ → ℕ) (d : Device) (a k : ℕ) → k < no_address → At a d →
    takes_again g d (page.aad k) ≡ sends (placed d k 1) (g (page.aad k))
unfolding choose
again g d a k b p =
    ap (λ (m : Message). choose (eqb m.kind (number_of Aad) && (has d auto_address && eqb d.configured 1))
    (sends (placed d m.offset 1) (g (page.aad k))) (takes d (page.aad k))) (codes.of_aad k b)
    ∙ rw p.able (rw p.configured refl)

moved : (d : Device) (a k : ℕ) → At a d → At k (placed d k 1)
moved d a k p = record { able = p.able; simple = p.simple; configured = refl; address = refl }

-- by the rules a configured device stays where it is, for AAD and what comes behind it
keeps_at : (e : Device) (a f : ℕ) → 0x580 ≤ f → At a e → At a (takes e f).device
keeps_at e a f b p =
    let s = stays e p.simple f (λ x. omega (arith, aau_code f x)) (λ x. p.configured) in
    record {
      able = rw s.abilities p.able;
      simple = rw (further_stays e f) p.simple;
      configured = s.configured ∙ p.configured;
      address = s.address ∙ p.address;
    }

-- and sends AAD on
goes_by : (d : Device) (a k : ℕ) → k < no_address → At a d → (takes d (page.aad k)).frame ≡ page.aad k
goes_by d a k b p =
    ap (λ (s : Sent). s.frame)
    (configured_passes_aad d (page.aad k) (λ z. omega (arith, z, p.configured))
    (ap (λ (m : Message). m.kind) (codes.of_aad k b)))

pub accident : Accident
accident =
    record {
      by_the_rules = λ d e a c k b p q. (
        keeps_at d a (page.aad k) (omega arith) p,
        rw (goes_by d a k b p) (keeps_at e c (page.aad k) (omega arith) q),
      );
      beside_another = λ d e a k b p q.
          rw (again (λ f. f + 1) d a k b p) (moved d a k p, keeps_at e k (page.aad k + 1) (omega arith) q);
      two_of_a_kind = λ d e a c k b p q.
          rw (again (λ f. f) d a k b p) (moved d a k p, rw (again (λ f. f) e c k b q) (moved e c k q));
      both_talk = λ d e k b p q u v. (
        tad_talks d p.simple k b p.address u,
        rw (tad_goes_on d p.simple k b) (tad_talks e q.simple k b q.address v),
      );
    }
