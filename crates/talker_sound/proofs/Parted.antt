-- The talker's clauses as 01 has them are those that ask the same in every state and those that go by the state.
use mathlib.Core.Path.{◌≡◌, refl}
use mathlib.Core.Bool.{Bool, true, false, ◌&&◌}
use lib.Dec.{eqb, leb}
use Rattle.device.specs.Device.{sending_data}
use Rattle.device.specs.declared.Device.{Device}
use Rattle.record.specs.Sound.{only, sending_able, addressed_able, data_able, replied_right, quiet_outside, last_below}
use Rattle.record.proofs.Both.{left, right, both_true}
use Rattle.record.specs.Sound.{talker_right}
use Rattle.talker_sound.specs.Talker.{data_right, state_right}

-- two tests are equal where each follows from the other
same : (a b : Bool) → (a ≡ true → b ≡ true) → (b ≡ true → a ≡ true) → a ≡ b
same true true f g = refl
same true false f g = let z = f refl in cc
same false true f g = let z = g refl in cc
same false false f g = refl

parted : (s a d w o r q l : Bool) →
    (s && (a && (d && ((w && o) && (r && (q && l)))))) ≡ ((d && (w && l)) && (s && (a && (o && (r && q)))))
parted s a d w o r q l = same _ _ (λ h. search (left, right, both_true)) (λ h. search (left, right, both_true))

pub talker_parted : (d : Device) → talker_right d ≡ (data_right d && state_right d)
talker_parted d =
    parted (sending_able d) (addressed_able d) (data_able d) (leb d.sent d.loadlength)
    (only (eqb d.talker sending_data) (leb 1 d.sent)) (replied_right d) (quiet_outside d) (last_below d)
