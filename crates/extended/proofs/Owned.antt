-- A frame of one of an extended device's own kinds goes by its rules, and any other as a simple device's, from where
-- `heeding` has it begin.
use Prim.Native.Nat.{ℕ}
use mathlib.Core.Path.{◌≡◌, ap, ◌∙◌}
use mathlib.Core.List.{List}
use mathlib.Core.Bool.{true, false}
use Rattle.device.specs.Choose.{choose}
use Rattle.device.specs.Device.{extended, has_further}
use Rattle.device.specs.Extended.{command_kind, primary_idle, heeding}
use Rattle.device.specs.Reply.{sends}
use Rattle.device.specs.Sent.{Sent}
use Rattle.device.specs.declared.Device.{Device}
use Rattle.record.specs.Record.{device_of}
use Rattle.state.specs.State.{with, sent_with}
use Rattle.state.specs.declared.State.{State}
use Rattle.state.specs.declared.Passed.{Passed}
use Rattle.extended.specs.Own.{Stands, Does}

-- the frame goes on, and the device after it is the record's
pub passed : {d : Device} {s : State} {c : List ℕ} (f : ℕ) (p : Passed) {t : Sent} → Stands d s c →
    ((x : Device) → sent_with x p ≡ sends (with x s) f) → sends d f ≡ t → Does t p c
passed {c = c} f p h e g =
    record { is = e (device_of c) ∙ ap (λ (x : Device). sends x f) h.is ∙ g; bytes = h.bytes }

pub as_well : {s t : Sent} {p : Passed} {c : List ℕ} → Does s p c → s ≡ t → Does t p c
as_well h e = record { is = h.is ∙ e; bytes = h.bytes }

-- where a frame that is not its own finds a device
module _ (d : Device) (k : ℕ) where
  pub heeds : has_further d extended ≡ true → command_kind k ≡ true →
      primary_idle d ≡ choose (has_further d extended) (heeding d k) d
  unfolding heeding choose
  heeds e c = rw (e, c)

  pub heeds_none : has_further d extended ≡ true → command_kind k ≡ false →
      d ≡ choose (has_further d extended) (heeding d k) d
  unfolding heeding choose
  heeds_none e c = rw (e, c)

  pub simple_heeds : has_further d extended ≡ false → d ≡ choose (has_further d extended) (heeding d k) d
  unfolding choose
  simple_heeds e = rw e
