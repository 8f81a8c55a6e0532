-- Bytes 20 and 21 written in a record make it that of a device with other second addresses or flags, whatever the state
-- beside it: no value of a state lies there.
use Prim.Native.Nat.{ℕ, ◌+◌, ◌*◌, ◌/◌, ◌%◌}
use mathlib.Core.Path.{◌≡◌, refl, sym, ap, ◌∙◌}
use mathlib.Core.List.{List}
use lib.ListN.{length, get_or, set}
use Rattle.device.specs.Device.{received}
use Rattle.device.specs.Change.{fixedsecond, second, flagging, seconding}
use Rattle.device.specs.Sent.{Sent}
use Rattle.device.specs.declared.Device.{Device}
use Rattle.record.specs.Record.{device_of, record_of}
use Rattle.record.specs.Written.{IsRecord}
use Rattle.record.proofs.Laws.{record_wide, read_again, read_sizes}
use Rattle.state.specs.State.{with, in_record}
use Rattle.state.specs.declared.State.{State}
use Rattle.state.specs.declared.Passed.{Passed}
use Rattle.extended.specs.Own.{Stands, Does}

module _ (d : Device) where
  flags_put : (l t : ℕ) →
      set (set (record_of d) fixedsecond (d.fixedsecond % received + l)) second (d.second % received + t) ≡
      record_of (flagging d l t)
  unfolding record_of
  flags_put l t = refl

  second_put : (a : ℕ) → set (record_of d) second ((d.second / received) * received + a) ≡ record_of (seconding d a)
  unfolding record_of
  second_put a = refl

module _ (b : List ℕ) (i : IsRecord b) where
  pub flags_written : (l t : ℕ) →
      set (set b fixedsecond (get_or b fixedsecond 0 % received + l)) second (get_or b second 0 % received + t) ≡
      record_of (flagging (device_of b) l t)
  unfolding device_of
  flags_written l t = rw i.whole at (flags_put (device_of b) l t)

  pub second_written : (a : ℕ) →
      set b second ((get_or b second 0 / received) * received + a) ≡ record_of (seconding (device_of b) a)
  unfolding device_of
  second_written a = rw i.whole at (second_put (device_of b) a)

-- a change g of those bytes alone
pub record Seconds (g : Device → Device) : Type 0 where
  pub beside : (d : Device) (s : State) → with (g d) s ≡ g (with d s)
  pub id : (d : Device) → (g d).id ≡ d.id
  pub load : (d : Device) → (g d).load ≡ d.load

pub unchanged : Seconds (λ d. d)
unchanged = record { beside = λ d s. refl; id = λ d. refl; load = λ d. refl }

pub by_flags : (l t : ℕ) → Seconds (λ d. flagging d l t)
by_flags l t = record { beside = λ d s. refl; id = λ d. refl; load = λ d. refl }

pub by_second : (a : ℕ) → Seconds (λ d. seconding d a)
by_second a = record { beside = λ d s. refl; id = λ d. refl; load = λ d. refl }

pub by_both : (a : ℕ) → Seconds (λ d. seconding (flagging d 0 0) a)
by_both a = record { beside = λ d s. refl; id = λ d. refl; load = λ d. refl }

module _ (g : Device → Device) (n : Seconds g) (b : List ℕ) {c : List ℕ} (e : c ≡ record_of (g (device_of b))) where
  pub read_back : device_of c ≡ g (device_of b)
  read_back =
      let z = read_sizes b in
      ap device_of e
      ∙ read_again (g (device_of b)) (ap (λ (x : List ℕ). length x) (n.id (device_of b)) ∙ z.0)
      (ap (λ (x : List ℕ). length x) (n.load (device_of b)) ∙ z.1)

  pub still_record : IsRecord c
  still_record =
      record {
        long = ap (λ (x : List ℕ). length x) e ∙ record_wide (g (device_of b));
        whole = ap record_of read_back ∙ sym e;
      }

  pub beside_read : (s : State) → in_record c s ≡ g (in_record b s)
  beside_read s = ap (λ (d : Device). with d s) read_back ∙ n.beside (device_of b) s

  pub stands : (s : State) {d : Device} → g (in_record b s) ≡ d → Stands d s c
  stands s h = record { is = beside_read s ∙ h; bytes = still_record }

  pub does : (p : Passed) {s : Sent} →
      (let q : Sent = record { device = g (in_record b p.state); frame = p.frame; handed = p.handed } in q) ≡ s →
      Does s p c
  does p h =
      record {
        is =
            ap (λ (d : Device). let q : Sent = record { device = d; frame = p.frame; handed = p.handed } in q)
            (beside_read p.state)
            ∙ h;
        bytes = still_record;
      }

-- nothing is written
pub stays : (b : List ℕ) → IsRecord b → b ≡ record_of (device_of b)
stays b i = sym i.whole
