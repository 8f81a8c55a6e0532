-- The clauses ask for something in some states only; so what a device sends says what is left of them.
use Prim.Native.Nat.{◌≤◌}
use mathlib.Core.Path.{◌≡◌, refl}
use mathlib.Core.Bool.{Bool, true, false, ◌&&◌, and-true}
use native.Mathlib.Omega.{arith}
use lib.Dec.{eqb, ltb, leb}
use borrow.Author.Tests.{eqb-true, ne_eqb, le-leb, lt-leb, lt-ltb, le-ltb}
use Rattle.device.specs.Device.{send_data, status, device_id, accessory_id, has}
use Rattle.device.specs.declared.Device.{Device}
use Rattle.record.specs.Sound.{only, addressed_able, data_able, last_below}
use Rattle.record.specs.Sound.{talker_right}

-- a last frame of zero is below any
zero_below : (n z l : Bool) → (z ≡ true → l ≡ true) → ((n && z) && l) ≡ (n && z)
zero_below true true l h = h refl
zero_below true false l h = refl
zero_below false z l h = refl

module _ (d : Device) where
  pub quiet_right : d.talker ≤ 1 →
      (addressed_able d && (data_able d && (leb d.sent d.loadlength && (eqb d.replied 0 &&
      (eqb d.noted 0 && eqb d.last 0))))) ≡ talker_right d
  quiet_right h =
      rw (
        ne_eqb d.talker 2 (omega arith),
        ne_eqb d.talker 3 (omega arith),
        ne_eqb d.talker 4 (omega arith),
        ne_eqb d.talker 5 (omega arith),
        le-leb d.talker 2 (omega arith),
        le-ltb 1 d.talker (omega arith),
        and-true (leb d.sent d.loadlength),
        zero_below (eqb d.noted 0) (eqb d.last 0) (ltb d.last 0x400)
            (λ e. lt-ltb d.last 0x400 (omega (arith, eqb-true d.last 0 e))),
      )

  pub data_right : d.talker ≡ 2 →
      (has d send_data && (data_able d && ((leb d.sent d.loadlength && leb 1 d.sent) &&
      (eqb d.replied 0 && last_below d)))) ≡ talker_right d
  data_right h = rw (h, and-true (has d send_data))

  abbrev able : Bool
  able =
      only (eqb d.talker 3) (has d status) &&
      (only (eqb d.talker 4) (has d device_id) && only (eqb d.talker 5) (has d accessory_id))

  abbrev as_long : Bool
  as_long = only (eqb d.talker 4) (leb 1 d.replied && leb d.replied d.idlength)

  pub replies_right : 3 ≤ d.talker →
      (able && (data_able d && (leb d.sent d.loadlength && ((only (eqb d.talker 3) (eqb d.replied 1) &&
      (only (eqb d.talker 5) (eqb d.replied 1) && as_long)) && last_below d)))) ≡ talker_right d
  replies_right h =
      rw (
        ne_eqb d.talker 1 (omega arith),
        ne_eqb d.talker 2 (omega arith),
        lt-leb d.talker 2 (omega arith),
        lt-ltb 1 d.talker (omega arith),
        and-true (leb d.sent d.loadlength),
        and-true as_long,
      )
