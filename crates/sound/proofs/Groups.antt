-- The clauses in groups are all the clauses; and at power-on, what of them is left to test.
use Prim.Native.Nat.{ℕ, ◌%◌}
use mathlib.Core.Path.{◌≡◌, refl, ap, ◌∙◌}
use mathlib.Core.Bool.{Bool, true, false, not, cond, ◌&&◌, ◌||◌, and-true}
use mathlib.Core.List.{List}
use native.Mathlib.Omega.{arith}
use lib.Dec.{eqb, ltb, leb}
use lib.ListN.{get_or, drop}
use borrow.Author.Tests.{eqb-true, leb-true, eq-eqb, le-leb, lt-ltb}
use Rattle.device.specs.Device.{auto_address, parallel_poll, extended, has, has_further}
use Rattle.device.specs.PowerOn.{bytes_from, power_on}
use Rattle.record.specs.Record.{device_of, zeros}
use Rattle.record.specs.Sound.{in_range, zero_past, service_with_status, unaddress_with_both, unconfigured_fixed}
use Rattle.record.specs.Sound.{variant_right, listener_able, service_able, sending_able, addressed_able, data_able}
use Rattle.record.specs.Sound.{sent_within, replied_right, quiet_outside, last_below, poll_right, sound_device, sound_record}
use Rattle.record.specs.Sound.{allowed}
use Rattle.record.proofs.Both.{never}
use Rattle.record.specs.Sound.{abilities_allowed, talker_right}
use Rattle.sound.specs.Groups.{able_all, variant_allowed}

-- the clauses on the talker, t, stand between what a device is able to do and be and the poll's, p
regrouped : (i z s u f c l v t p : Bool) →
    (i && (z && (s && (u && (f && (c && (l && (v && (t && p))))))))) ≡
    (i && (z && (((s && u) && ((f && c) && (l && v))) && (t && p))))
regrouped true true true true true true true v t p = refl
regrouped true true true true true true false v t p = refl
regrouped true true true true true false l v t p = refl
regrouped true true true true false c l v t p = refl
regrouped true true true false f c l v t p = refl
regrouped true true false u f c l v t p = refl
regrouped true false s u f c l v t p = refl
regrouped false z s u f c l v t p = refl

talker_first : (a b c d e f g p : Bool) →
    (a && (b && (c && (d && (e && (f && (g && p))))))) ≡ ((a && (b && (c && (d && (e && (f && g)))))) && p)
talker_first true true true true true true g p = refl
talker_first true true true true true false g p = refl
talker_first true true true true false f g p = refl
talker_first true true true false e f g p = refl
talker_first true true false d e f g p = refl
talker_first true false c d e f g p = refl
talker_first false b c d e f g p = refl

pub grouped : (b : List ℕ) →
    let d = device_of b in
    sound_record b ≡ (in_range d && (zero_past d && (able_all d && (talker_right d && poll_right d))))
unfolding sound_record sound_device
grouped b =
    let d = device_of b in
    let t = talker_first (sending_able d) (addressed_able d) (data_able d) (sent_within d) (replied_right d)
    (quiet_outside d) (last_below d) (poll_right d) in
    ap (λ (x : Bool). in_range d && (zero_past d && (service_with_status d && (unaddress_with_both d &&
    (unconfigured_fixed d && (variant_right d && (listener_able d && (service_able d && x)))))))) t
    ∙ regrouped (in_range d) (zero_past d) (service_with_status d) (unaddress_with_both d) (unconfigured_fixed d)
    (variant_right d) (listener_able d) (service_able d) (talker_right d) (poll_right d)

-- at power-on the clauses of a variant ask that the second address, x, is one or zero
at_variant : (x : ℕ) (g a : Bool) →
    (leb x 31 && cond g (not a && (ltb x 64 && (ltb x 64 && (eqb (x % 32) (x % 32) && true)))) (eqb x 0 && eqb x 0)) ≡
    cond g (not a && leb x 31) (eqb x 0)
at_variant x g a =
    go (leb x 31) (ltb x 64) (eqb x 0) (λ e. lt-ltb x 64 (omega (arith, leb-true x 31 e)))
    (λ e. le-leb x 31 (omega (arith, eqb-true x 0 e))) g a (eqb (x % 32) (x % 32)) (eq-eqb (x % 32) (x % 32) refl)
  where
    go : (y w o : Bool) → (y ≡ true → w ≡ true) → (o ≡ true → y ≡ true) → (g a q : Bool) → q ≡ true →
        (y && cond g (not a && (w && (w && (q && true)))) (o && o)) ≡ cond g (not a && y) o
    go true w o h k true a q e = rw (h refl, e)
    go true w true h k false a q e = refl
    go true w false h k false a q e = refl
    go false w o h k true true q e = refl
    go false w o h k true false q e = refl
    go false w true h k false a q e = k refl
    go false w false h k false a q e = refl

-- at power-on only the item's values are left to test
pub at_power_on : (item : List ℕ) →
    let d = power_on item in
    (leb d.fixed 31 && (leb d.idlength 8 && (zeros (drop d.idlength d.id) &&
    (abilities_allowed d && (leb d.further 3 && variant_allowed d))))) ≡ allowed item
unfolding allowed sound_device power_on zeros
at_power_on item =
    rw (← at_variant (get_or item 13 0) (has_further (power_on item) extended) (has (power_on item) auto_address))
    (go (leb (get_or item 1 0) 31) (leb (get_or item 3 0) 8) (zeros (drop (get_or item 3 0) (bytes_from 4 8 item)))
    (service_with_status (power_on item)) (unaddress_with_both (power_on item)) (leb (get_or item 12 0) 3)
    (leb (get_or item 13 0) 31) _ (has_further (power_on item) parallel_poll) (eqb (get_or item 1 0) (get_or item 1 0))
    (eq-eqb (get_or item 1 0) (get_or item 1 0) refl))
  where
    zero_poll : (h : Bool) → (not (not h) || true) ≡ true
    zero_poll true = refl
    zero_poll false = refl

    go : (f i z s u p y v h e : Bool) → e ≡ true →
        (f && (i && (z && ((s && u) && (p && (y && v)))))) ≡
        (y && ((f && (f && (p && (i && true)))) &&
        ((z && true) && (s && (u && (e && (v && (not (not h) || true))))))))
    go f i z s u p false v h e q = simp never
    go false i z s u p true v h e q = refl
    go true false z s u p true v h e q = simp never
    go true true z s u false true v h e q = simp never
    go true true false s u true true v h e q = refl
    go true true true false u true true v h e q = refl
    go true true true true false true true v h e q = refl
    go true true true true true true true v h e q = rw (q, zero_poll h, and-true v)
