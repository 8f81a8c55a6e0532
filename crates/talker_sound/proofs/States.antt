-- What the clauses that go by the talker's state come to in each state.
use Prim.Native.Nat.{◌<◌}
use mathlib.Core.Path.{◌≡◌}
use mathlib.Core.Bool.{Bool, true, ◌&&◌, and-true}
use native.Mathlib.Omega.{arith}
use lib.Dec.{eqb, leb}
use borrow.Author.Tests.{ne_eqb, lt-ltb, lt-leb}
use Rattle.device.specs.Device.{send_data, status, device_id, accessory_id, has, talks}
use Rattle.device.specs.declared.Device.{Device}
use Rattle.talker_sound.specs.Talker.{state_right}

module _ (d : Device) where
  abbrev pub quiet : Bool
  quiet = eqb d.replied 0 && (eqb d.noted 0 && eqb d.last 0)

  pub idle_right : d.talker ≡ 0 → quiet ≡ state_right d
  idle_right e = rw e

  pub addressed_right : d.talker ≡ 1 → (talks d && quiet) ≡ state_right d
  addressed_right e = rw e

  pub data_right : d.talker ≡ 2 → (has d send_data && (leb 1 d.sent && eqb d.replied 0)) ≡ state_right d
  data_right e = rw e (simp and-true)

  pub status_right : d.talker ≡ 3 → (has d status && eqb d.replied 1) ≡ state_right d
  status_right e = rw e (simp and-true)

  pub id_right : d.talker ≡ 4 →
      (has d device_id && (leb 1 d.replied && leb d.replied d.idlength)) ≡ state_right d
  id_right e = rw e (simp and-true)

  pub accessory_right : d.talker ≡ 5 → (has d accessory_id && eqb d.replied 1) ≡ state_right d
  accessory_right e = rw e (simp and-true)

  pub past_right : 5 < d.talker → true ≡ state_right d
  past_right h =
      rw (
        ne_eqb d.talker 2 (λ e. omega arith),
        ne_eqb d.talker 3 (λ e. omega arith),
        ne_eqb d.talker 4 (λ e. omega arith),
        ne_eqb d.talker 5 (λ e. omega arith),
        ne_eqb d.talker 1 (λ e. omega arith),
        lt-leb d.talker 2 (omega arith),
        lt-ltb 1 d.talker (omega arith),
      )
